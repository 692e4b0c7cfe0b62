-- What the steps of preparing say of a refusal.
use Rattle.std.proofs.Common.{◌≡◌, inr, List, [], refl, subst}
use Rattle.std.specs.Prelude.{Result, Err}
use Rattle.bit_base.specs.declared.place.Place.{Place}
use Rattle.vlog_tree.specs.declared.token.VTokens.{VTokens}
use Rattle.vlog_tree.specs.declared.fault.VlogCode.{VlogCode}
use Rattle.vlog_tree.specs.declared.fault.VlogCode.TheVariants.{VlogDirective, VlogSize}
use Rattle.vlog_tree.specs.declared.fault.VlogFault.{VlogFault}
use Rattle.vlog_tree.specs.declared.fault.VlogFault.TheVariants.{NoMemory, At}
use Rattle.vlog_prep.specs.declared.piece.Piece.{Piece}
use Rattle.vlog_prep.specs.Pieces.{AreRead}
use Rattle.vlog_prep.specs.Reading.{prepared}
use Rattle.vlog_prep.specs.Prepared.{Files, AreSmall, IsFirstLong, Refuses}
use Rattle.vlog_prep.specs.Files.{IsLong, Means}
use Rattle.vlog_prep.proofs.Fine.{IsFine, IsRefusal, prepared-fine}
use Rattle.vlog_prep.proofs.Answers.{long-not_small, long-same}

-- The refusal of a file that is too long is the one of the first such file.
pub long-answer : (files : Files) (fault : VlogFault) → IsLong files fault → (place : Place) → IsFirstLong files place → ◌≡◌ {A = Result VTokens VlogFault} (Err fault) (Err (At VlogSize place [] []))
long-answer files NoMemory h place l = absurd h
long-answer files (At VlogSize here names path) h place l = rw (h.1, h.2, long-same files here place h.0 l) refl
long-answer files (At _ here names path) h place l = absurd h

pub no-long : {A : Type 0} (files : Files) → AreSmall files → (place : Place) → IsFirstLong files place → A
no-long files small place l = absurd (long-not_small files place l small)

pub means-refuses : (files : Files) (pieces : List Piece) (fault : VlogFault) → AreSmall files → AreRead files pieces → Means pieces (Err fault) → Refuses files fault
means-refuses files pieces NoMemory small read h = record { bad_byte = tt; directive = tt; too_large = tt; codes = tt }
means-refuses files pieces (At code place names path) small read h = by_fine code (subst IsFine h (prepared-fine pieces)) h
  where
    by_fine : (code : VlogCode) → IsRefusal (At code place names path) → prepared pieces ≡ Err (At code place names path) → Refuses files (At code place names path)
    by_fine VlogDirective fine h = record {
      bad_byte = λ e. cc e;
      directive = λ e. (record { small = small; pieces = pieces; read = read; meaning = rw (fine.0, fine.1) at h }, fine.0, fine.1);
      too_large = λ e. cc e;
      codes = tt;
    }
    by_fine VlogSize fine h = record {
      bad_byte = λ e. cc e;
      directive = λ e. cc e;
      too_large = λ e. (inr (record { small = small; pieces = pieces; read = read; meaning = rw (fine.0, fine.1) at h }), fine.0, fine.1);
      codes = tt;
    }
    by_fine _ fine h = absurd fine
