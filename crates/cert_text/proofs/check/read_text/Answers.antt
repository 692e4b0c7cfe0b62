use Rattle.std.proofs.Common.{◌≡◌, ◌+◌, [], ◌∷◌, ◌++◌, List, map, length, arith}
use Rattle.std.proofs.lemmas.Result.{err_from_is_err_and}
use Rattle.std.proofs.lemmas.List.{length-map}
use Rattle.lemma_checker.specs.Checker.{link}
use Rattle.cert_text.specs.Reading.{Link, Parts, Accepted}
use Rattle.cert_text.proofs.ReadLemmas.{leads_more, fault_after}
use Rattle.cert_text.proofs.CheckLemmas.{checks_fault}
use Rattle.cert_text.proofs.check.read_text.Goals as goal

pub returns-in_err-bases : goal.returns-in_err-bases
returns-in_err-bases c =
    let p = err_from_is_err_and c.from_residual-in_err-bases.result c.from_residual-in_err-bases.ensures.1 in
    let head = rw (c.new-lines.ensures.rest, c.new-lines.ensures.number) at c.in_ok-k.ensures.reads in
    let keep_reads = rw c.as_slice.ensures.value at c.in_ok-keep.ensures.reads in
    let keep = leads_more _ _ _ _ _ _ _ _ _ _ head keep_reads in
    rw (p.1, p.2) (checks_fault c.args.circuit c.args.bytes.now c.in_err-bases.field-0.0 (fault_after _ _ _ _ _ _ _ _ keep (c.in_err-bases.ensures.reads c.in_ok-k.set.items (map link c.in_ok-keep.keep.items))))

pub returns-in_err-step : goal.returns-in_err-step
returns-in_err-step c =
    let p = err_from_is_err_and c.from_residual-in_err-step.result c.from_residual-in_err-step.ensures.1 in
    let head = rw (c.new-lines.ensures.rest, c.new-lines.ensures.number) at c.in_ok-k.ensures.reads in
    let keep_reads = rw c.as_slice.ensures.value at c.in_ok-keep.ensures.reads in
    let keep = leads_more _ _ _ _ _ _ _ _ _ _ head keep_reads in
    let bases = leads_more _ _ _ _ _ _ _ _ _ _ keep (c.in_ok-bases.ensures.reads c.in_ok-k.set.items (map link c.in_ok-keep.keep.items)) in
    let done : List (List Link) = map link c.in_ok-keep.keep.items ∷ map (λ b. map link b.items) c.in_ok-bases.bases.items in
    let long : length done ≡ c.in_ok-k.k + 1 = omega (arith, length-map c.in_ok-bases.bases.items (λ b. map link b.items), c.in_ok-bases.ensures.counted) in
    rw (p.1, p.2) (checks_fault c.args.circuit c.args.bytes.now c.in_err-step.field-0.0 (fault_after _ _ _ _ _ _ _ _ bases ((rw c.as_slice-2.ensures.value at c.in_err-step.ensures.reads) done long)))

pub returns-in_err-read_end : goal.returns-in_err-read_end
returns-in_err-read_end c =
    let p = err_from_is_err_and c.from_residual-in_err-read_end.result c.from_residual-in_err-read_end.ensures.1 in
    let head = rw (c.new-lines.ensures.rest, c.new-lines.ensures.number) at c.in_ok-k.ensures.reads in
    let keep_reads = rw c.as_slice.ensures.value at c.in_ok-keep.ensures.reads in
    let keep = leads_more _ _ _ _ _ _ _ _ _ _ head keep_reads in
    let bases = leads_more _ _ _ _ _ _ _ _ _ _ keep (c.in_ok-bases.ensures.reads c.in_ok-k.set.items (map link c.in_ok-keep.keep.items)) in
    let done : List (List Link) = map link c.in_ok-keep.keep.items ∷ map (λ b. map link b.items) c.in_ok-bases.bases.items in
    let long : length done ≡ c.in_ok-k.k + 1 = omega (arith, length-map c.in_ok-bases.bases.items (λ b. map link b.items), c.in_ok-bases.ensures.counted) in
    let step = leads_more _ _ _ _ _ _ _ _ _ _ bases ((rw c.as_slice-2.ensures.value at c.in_ok-step.ensures.reads) done long) in
    let parts : Parts = record { k = c.in_ok-k.k; set = c.in_ok-k.set.items; queries = done ++ map link c.in_ok-step.step.items ∷ [] } in
    rw (p.1, p.2) (checks_fault c.args.circuit c.args.bytes.now c.in_err-read_end.field-0.0 (fault_after _ _ _ _ _ _ _ _ step (c.in_err-read_end.ensures c.args.circuit parts)))

pub returns : goal.returns
returns c =
    let head = rw (c.new-lines.ensures.rest, c.new-lines.ensures.number) at c.in_ok-k.ensures.reads in
    let keep_reads = rw c.as_slice.ensures.value at c.in_ok-keep.ensures.reads in
    let keep = leads_more _ _ _ _ _ _ _ _ _ _ head keep_reads in
    let bases = leads_more _ _ _ _ _ _ _ _ _ _ keep (c.in_ok-bases.ensures.reads c.in_ok-k.set.items (map link c.in_ok-keep.keep.items)) in
    let done : List (List Link) = map link c.in_ok-keep.keep.items ∷ map (λ b. map link b.items) c.in_ok-bases.bases.items in
    let long : length done ≡ c.in_ok-k.k + 1 = omega (arith, length-map c.in_ok-bases.bases.items (λ b. map link b.items), c.in_ok-bases.ensures.counted) in
    let step = leads_more _ _ _ _ _ _ _ _ _ _ bases ((rw c.as_slice-2.ensures.value at c.in_ok-step.ensures.reads) done long) in
    let parts : Parts = record { k = c.in_ok-k.k; set = c.in_ok-k.set.items; queries = done ++ map link c.in_ok-step.step.items ∷ [] } in
    let all = step.go (Accepted parts) (c.in_ok-read_end.ensures c.args.circuit parts) in
    (c.of.ensures.circuit, rw (c.of.ensures.k, c.of.ensures.set, c.of.ensures.bases, c.of.ensures.step) all)
