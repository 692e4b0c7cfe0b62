use Rattle.prove_top.specs.declared.report.Status.TheVariants as status
use Rattle.prove_top.proofs.ClauseLemmas.{added-by, added-calls, last_failed, fault_report, fault_without, report_prefix, no_memory_bytes, status-iff, unknown-status, usage-report}
use Rattle.prove_top.specs.declared.report.Refusal.TheVariants.{NoFile, NotYet}
use Rattle.prove_top.proofs.RefusalLemmas.{agrees-iff, map-iff, refusal-put, long-iff, refusal-iff, refused-report, replay-iff, sampled-iff, wrong-iff}
use Rattle.prove_top.proofs.RefutedLemmas.{refuted-put, written-put}
use Rattle.prove_top.proofs.ReplayLines.{agrees-report, differs-report, map-report}
use Rattle.prove_top.proofs.StoreLemmas.{calls-stop, file-ends, files-kept, others-kept, store-after, kept-of}
use Rattle.prove_top.proofs.top.run_tool.Goals as goal

pub returns-clause-reads_in_order : goal.returns-clause-reads_in_order
returns-clause-reads_in_order g c = added-calls _ _ _ _ _ c.run-status.ensures.calls

pub returns-clause-reads_stop : goal.returns-clause-reads_stop
returns-clause-reads_stop g c = added-by _ _ _ _ _ _ (λ calls are runs. calls-stop _ _ calls are) c.run-status.ensures.calls

pub returns-clause-store_after_reads : goal.returns-clause-store_after_reads
returns-clause-store_after_reads g c = added-by _ _ _ _ _ _ (λ calls are runs. store-after _ _ calls are) c.run-status.ensures.calls

pub returns-clause-store_is_due : goal.returns-clause-store_is_due
returns-clause-store_is_due g c = added-by _ _ _ _ _ _ (λ calls are runs. runs.kept) c.run-status.ensures.calls

pub returns-clause-files_kept : goal.returns-clause-files_kept
returns-clause-files_kept g c = files-kept _ _ c.args.words.now _ _ _ _ c.run-status.ensures.calls.ends.kept c.run-status.ensures.answer

pub returns-clause-other_files_kept : goal.returns-clause-other_files_kept
returns-clause-other_files_kept g c = others-kept _ _ c.args.words.now _ c.run-status.ensures.calls.ends.kept

pub returns-clause-fault_file : goal.returns-clause-fault_file
returns-clause-fault_file g c = file-ends _ _ c.args.words.now _ _ _ (kept-of _ _ _ _ _ _ _ _ _ _ c.run-status.ensures.calls)

pub returns-clause-no_memory_file : goal.returns-clause-no_memory_file
returns-clause-no_memory_file g c = file-ends _ _ c.args.words.now _ _ _ (kept-of _ _ _ _ _ _ _ _ _ _ c.run-status.ensures.calls)

pub returns-clause-last_failed_is_fault : goal.returns-clause-last_failed_is_fault
returns-clause-last_failed_is_fault g c = added-by _ _ _ _ _ _ (λ calls are runs. last_failed _ _ _ _ _ _ _ calls runs.ran) c.run-status.ensures.calls

pub returns-clause-fault_report : goal.returns-clause-fault_report
returns-clause-fault_report g c = added-by _ _ _ _ _ _ (λ calls are runs. fault_report _ _ _ _ _ _ _ calls runs.ran) c.run-status.ensures.calls

pub returns-clause-fault_without_failed_call : goal.returns-clause-fault_without_failed_call
returns-clause-fault_without_failed_call g c = added-by _ _ _ _ _ _ (λ calls are runs. fault_without _ _ _ _ _ _ _ calls runs.ran) c.run-status.ensures.calls

pub returns-clause-report_prefix : goal.returns-clause-report_prefix
returns-clause-report_prefix g c = added-by _ _ _ _ _ _ (λ calls are runs. report_prefix _ _ _ _ _ _ _ calls runs.ran) c.run-status.ensures.calls

pub returns-clause-no_memory_bytes : goal.returns-clause-no_memory_bytes
returns-clause-no_memory_bytes g c = added-by _ _ _ _ _ _ (λ calls are runs. no_memory_bytes _ _ _ _ _ _ _ calls runs.ran) c.run-status.ensures.calls

pub returns-clause-simulated_iff : goal.returns-clause-simulated_iff
returns-clause-simulated_iff g c = status-iff _ _ status.Unknown c.args.words.now _ _ _ _ (unknown-status c.one_reading.ensures c.one_answer.ensures c.args.words.now) c.run-status.ensures.answer

pub returns-clause-agrees_iff : goal.returns-clause-agrees_iff
returns-clause-agrees_iff g c = agrees-iff c.one_reading.ensures c.one_answer.ensures _ _ _ c.args.words.now _ _ c.run-status.ensures.answer

pub returns-clause-map_iff : goal.returns-clause-map_iff
returns-clause-map_iff g c = map-iff c.one_reading.ensures c.one_answer.ensures _ _ _ c.args.words.now _ _ c.run-status.ensures.answer

pub returns-clause-map_report : goal.returns-clause-map_report
returns-clause-map_report g c = map-report c.args.words.now _ _ _ _ _ c.run-status.ensures.answer

pub returns-clause-refusal_put : goal.returns-clause-refusal_put
returns-clause-refusal_put g c = refusal-put c.one_reading.ensures c.one_answer.ensures c.reports_begin_with_addresses.ensures _ c.args.words.now _ _ _ _ c.run-status.ensures.answer

pub returns-clause-refuted_sampled_iff : goal.returns-clause-refuted_sampled_iff
returns-clause-refuted_sampled_iff g c = sampled-iff c.one_reading.ensures c.one_answer.ensures _ _ _ c.args.words.now _ _ c.run-status.ensures.answer

pub returns-clause-differs_iff : goal.returns-clause-differs_iff
returns-clause-differs_iff g c = replay-iff c.one_reading.ensures c.one_answer.ensures _ _ _ c.args.words.now _ _ c.run-status.ensures.answer

pub returns-clause-differs_report : goal.returns-clause-differs_report
returns-clause-differs_report g c = differs-report c.one_reading.ensures c.one_answer.ensures c.args.words.now _ _ _ _ _ c.run-status.ensures.answer

pub returns-clause-agrees_report : goal.returns-clause-agrees_report
returns-clause-agrees_report g c = agrees-report c.one_reading.ensures c.one_answer.ensures c.args.words.now _ _ _ _ _ c.run-status.ensures.answer

pub returns-clause-usage_report : goal.returns-clause-usage_report
returns-clause-usage_report g c = usage-report _ _ c.args.words.now _ _ _ _ _ _ _ c.run-status.ensures.usage c.run-status.ensures.calls

pub returns-clause-refuted_written : goal.returns-clause-refuted_written
returns-clause-refuted_written g c = written-put _ _ _ c.args.words.now _ _ c.run-status.ensures.answer

pub returns-clause-refuted_replays : goal.returns-clause-refuted_replays
returns-clause-refuted_replays g c = refuted-put c.run_ends_there.ensures _ _ _ c.args.words.now _ _ c.run-status.ensures.answer

pub returns-clause-no_file_iff : goal.returns-clause-no_file_iff
returns-clause-no_file_iff g c = refusal-iff c.one_reading.ensures c.one_answer.ensures c.reports_begin_with_addresses.ensures _ c.args.words.now _ _ _ _ c.run-status.ensures.answer NoFile (λ is. cc)

pub returns-clause-long_file_iff : goal.returns-clause-long_file_iff
returns-clause-long_file_iff g c = long-iff c.one_reading.ensures c.one_answer.ensures c.reports_begin_with_addresses.ensures _ c.args.words.now _ _ _ _ c.run-status.ensures.answer

pub returns-clause-not_yet_iff : goal.returns-clause-not_yet_iff
returns-clause-not_yet_iff g c = refusal-iff c.one_reading.ensures c.one_answer.ensures c.reports_begin_with_addresses.ensures _ c.args.words.now _ _ _ _ c.run-status.ensures.answer NotYet (λ is. cc)

pub returns-clause-refused_iff : goal.returns-clause-refused_iff
returns-clause-refused_iff g c = wrong-iff c.one_reading.ensures c.one_answer.ensures c.reports_begin_with_addresses.ensures _ c.args.words.now _ _ _ _ c.run-status.ensures.answer

pub returns-clause-refused_report : goal.returns-clause-refused_report
returns-clause-refused_report g c = refused-report c.one_reading.ensures c.one_answer.ensures c.reports_begin_with_addresses.ensures _ c.args.words.now _ _ _ _ c.run-status.ensures.answer
