use Rattle.std.proofs.Common.{ℕ, ◌≤◌}
use Rattle.flat_drives.specs.Drives.{IsOpen}
use Rattle.flat_driven.proofs.Single.{are_single, from_none, from_some, open_answer}
use Rattle.flat_driven.proofs.driving.driver_offence.Goals as goal

pub returns-in-None-clause-single : goal.returns-in-None-clause-single
returns-in-None-clause-single c = are_single c.args.nets.now c.args.items.now (from_none c.in_ok-offence.field-0 _ c.in_default.is c.in_ok-offence.ensures.none)

pub returns-in-Some-net-clause-first : goal.returns-in-Some-net-clause-first
returns-in-Some-net-clause-first c =
    let nets = c.args.nets.now in
    let items = c.args.items.now in
    let n = c.in-Some-net.net in
    open_answer nets items n c.open_offence.result c.open_offence.ensures (from_some c.in_ok-net.net n (IsOpen nets items) c.in-Some-net.is c.in_ok-net.ensures.open)
    (from_some c.in_ok-net.net n (λ n. (m : ℕ) → IsOpen nets items m → n ≤ m) c.in-Some-net.is c.in_ok-net.ensures.first) (from_none c.in_ok-offence.field-0 _ c.in_default.is c.in_ok-offence.ensures.none)
