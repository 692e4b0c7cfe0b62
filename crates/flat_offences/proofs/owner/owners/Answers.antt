use Rattle.std.proofs.Common.{◌∙◌, ◌++◌, replicate, refl, sym, ap, length}
use Rattle.std.proofs.lemmas.Option.{slice_get_read}
use Rattle.flat_offences.proofs.Owning.{own_step, own_end}
use Rattle.flat_offences.proofs.owner.owners.Goals as goal

pub loop-number-preserved : goal.loop-number-preserved
loop-number-preserved c =
    own_step c.args.nets.now c.loop-number.number c.index-nets-number.result c.loop-number.out.items c.push_times.new.out.items c.requires.row
    (slice_get_read c.args.nets.now (length c.args.nets.now) c.loop-number.number c.index-nets-number.result refl c.loop-number-test.true c.index-nets-number.is) (c.in_ok-push_times.ensures ∙ ap (λ n. c.loop-number.out.items ++ replicate n.width c.loop-number.number) (sym c.index-nets-number.is)) c.loop-number.invariant

pub returns : goal.returns
returns c = own_end c.args.nets.now c.loop-number.number c.loop-number.out.items c.loop-number-test.false c.loop-number.invariant
