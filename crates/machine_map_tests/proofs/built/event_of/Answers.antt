use Rattle.std.proofs.Common.{arith}
use Rattle.machine_map_tests.proofs.TestLemmas.{first_of, front_of, back_of}
use Rattle.machine_map_tests.proofs.built.event_of.Goals as goal

pub returns-clause-of : goal.returns-clause-of
returns-clause-of c = λ nodes h.
    let rest = back_of nodes c.args.wires.now c.split_at.result.1.now 2 c.split_at.ensures.back h in
    let given = back_of nodes c.split_at.result.1.now c.split_at-2.result.1.now c.args.places c.split_at-2.ensures.back rest in
    record {
      read_of = first_of nodes c.args.wires.now c.split_at.result.0.now 2 0 c.split_at.ensures.front (omega (arith, c.split_at.ensures.front_len)) h;
      write_of = first_of nodes c.args.wires.now c.split_at.result.0.now 2 1 c.split_at.ensures.front (omega (arith, c.split_at.ensures.front_len)) h;
      address_of = front_of nodes c.split_at.result.1.now c.split_at-2.result.0.now c.in_ok-copied.field-0.items c.args.places c.in_ok-copied.ensures c.split_at-2.ensures.front rest;
      payload_of = front_of nodes c.split_at-2.result.1.now c.split_at-3.result.0.now c.in_ok-copied-2.field-0.items c.args.bus c.in_ok-copied-2.ensures c.split_at-3.ensures.front given;
      strobe_of = rw c.in_ok-copied-3.ensures (back_of nodes c.split_at-2.result.1.now c.split_at-3.result.1.now c.args.bus c.split_at-3.ensures.back given);
    }
