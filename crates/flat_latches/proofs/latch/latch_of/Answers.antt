use Rattle.std.proofs.Common.{◌∙◌, ◌&&◌, sym}
use Rattle.flat_design.specs.Systems.{item_flow}
use Rattle.flat_latches.proofs.PathLemmas.{match_some, match_none}
use Rattle.flat_latches.proofs.Leasts.{least_none, least_some, no_latch, is_latch, never_none}
use Rattle.flat_latches.proofs.latch.latch_of.Goals as goal

pub returns-in_default-2 : goal.returns-in_default-2
returns-in_default-2 c =
    no_latch c.args.nets.now c.args.item.now (least_none c.in_ok-bit.field-0 (λ i. (item_flow c.args.nets.now c.args.item.now).drives i && (item_flow c.args.nets.now c.args.item.now).leaves i) c.in_default-2.not-Some c.in_ok-bit.ensures)

pub returns-in-None : goal.returns-in-None
returns-in-None c place targets body q i on =
    absurd (never_none c.args.nets.now c.args.item.now c.in-Comb.place c.in-Comb.targets c.in-Comb.body c.in-Some.bit c.in-Comb.is
    (least_some c.in_ok-bit.field-0 c.in-Some.bit (λ i. (item_flow c.args.nets.now c.args.item.now).drives i && (item_flow c.args.nets.now c.args.item.now).leaves i) c.in-Some.is c.in_ok-bit.ensures)
    (match_none c.in_ok-leaving_path.field-0 _ _ (λ x e. cc (sym c.in-None.is ∙ e)) c.in_ok-leaving_path.ensures))

pub returns-in-Some-2 : goal.returns-in-Some-2
returns-in-Some-2 c =
    is_latch c.args.nets.now c.args.item.now c.in-Comb.place c.in-Comb.targets c.in-Comb.body c.in-Some.bit c.in-Some-2.path.items c.in-Comb.is
    (least_some c.in_ok-bit.field-0 c.in-Some.bit (λ i. (item_flow c.args.nets.now c.args.item.now).drives i && (item_flow c.args.nets.now c.args.item.now).leaves i) c.in-Some.is c.in_ok-bit.ensures)
    (match_some c.in_ok-leaving_path.field-0 c.in-Some-2.path _ _ c.in-Some-2.is c.in_ok-leaving_path.ensures)
