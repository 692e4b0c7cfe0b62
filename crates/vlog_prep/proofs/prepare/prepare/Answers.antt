use Rattle.std.proofs.Common.{map}
use Rattle.std.specs.Prelude.{vec_items}
use Rattle.vlog_prep.proofs.Answers.{long-not_small}
use Rattle.vlog_prep.proofs.Refusals.{long-answer, means-refuses}
use Rattle.vlog_prep.proofs.prepare.prepare.Goals as goal

pub returns-in-Err-clause-file_too_large : goal.returns-in-Err-clause-file_too_large
returns-in-Err-clause-file_too_large c = λ place long. long-answer (map vec_items c.args.files.now) c.in-Err.fault c.in-Err.ensures.long place long

pub returns-in-Err-read_files-clause-file_too_large : goal.returns-in-Err-read_files-clause-file_too_large
returns-in-Err-read_files-clause-file_too_large c = λ place long. absurd (long-not_small (map vec_items c.args.files.now) place long c.in-Ok.ensures.small)

pub returns-in-Ok-tokens_of-clause-file_too_large : goal.returns-in-Ok-tokens_of-clause-file_too_large
returns-in-Ok-tokens_of-clause-file_too_large c = λ place long. absurd (long-not_small (map vec_items c.args.files.now) place long c.in-Ok.ensures.small)

pub returns-clause-file_too_large : goal.returns-clause-file_too_large
returns-clause-file_too_large c = λ place long. absurd (long-not_small (map vec_items c.args.files.now) place long c.in-Ok.ensures.small)

pub returns-clause-bad_byte : goal.returns-clause-bad_byte
returns-clause-bad_byte c =
    (means-refuses (map vec_items c.args.files.now) c.as_slice.result.now c.in-Err-tokens_of.fault c.in-Ok.ensures.small (rw c.as_slice.ensures c.in-Ok-read_files.ensures.read) c.in-Err-tokens_of.ensures).bad_byte

pub returns-clause-directive : goal.returns-clause-directive
returns-clause-directive c =
    (means-refuses (map vec_items c.args.files.now) c.as_slice.result.now c.in-Err-tokens_of.fault c.in-Ok.ensures.small (rw c.as_slice.ensures c.in-Ok-read_files.ensures.read) c.in-Err-tokens_of.ensures).directive

pub returns-clause-too_many : goal.returns-clause-too_many
returns-clause-too_many c =
    (means-refuses (map vec_items c.args.files.now) c.as_slice.result.now c.in-Err-tokens_of.fault c.in-Ok.ensures.small (rw c.as_slice.ensures c.in-Ok-read_files.ensures.read) c.in-Err-tokens_of.ensures).too_large

pub returns-clause-codes : goal.returns-clause-codes
returns-clause-codes c =
    (means-refuses (map vec_items c.args.files.now) c.as_slice.result.now c.in-Err-tokens_of.fault c.in-Ok.ensures.small (rw c.as_slice.ensures c.in-Ok-read_files.ensures.read) c.in-Err-tokens_of.ensures).codes
