-- Each arm is the operator on numbers that does to every bit what the effect says.
use Rattle.field_policies.proofs.BitLemmas.{own_bits, no_bits, full_bits, and_bits, or_bits, xor_bits, inverse_bits}
use Rattle.field_policies.proofs.effect.write_result.Goals as goal

pub returns-in-OneSet : goal.returns-in-OneSet
returns-in-OneSet c = rw c.in-OneSet.is (or_bits c.args.width _ _ _ _ (own_bits c.args.width _ c.requires.value) (own_bits c.args.width _ c.requires.payload))

pub returns-in-OneClear : goal.returns-in-OneClear
returns-in-OneClear c = rw (c.in-OneClear.is, c.ones-full.ensures) (and_bits c.args.width _ _ _ _ (own_bits c.args.width _ c.requires.value) (inverse_bits c.args.width _ _ (own_bits c.args.width _ c.requires.payload)))

pub returns-in-OneToggle : goal.returns-in-OneToggle
returns-in-OneToggle c = rw c.in-OneToggle.is (xor_bits c.args.width _ _ _ _ (own_bits c.args.width _ c.requires.value) (own_bits c.args.width _ c.requires.payload))

pub returns-in-ZeroSet : goal.returns-in-ZeroSet
returns-in-ZeroSet c = rw (c.in-ZeroSet.is, c.ones-full.ensures) (or_bits c.args.width _ _ _ _ (own_bits c.args.width _ c.requires.value) (inverse_bits c.args.width _ _ (own_bits c.args.width _ c.requires.payload)))

pub returns-in-ZeroClear : goal.returns-in-ZeroClear
returns-in-ZeroClear c = rw c.in-ZeroClear.is (and_bits c.args.width _ _ _ _ (own_bits c.args.width _ c.requires.value) (own_bits c.args.width _ c.requires.payload))

pub returns-in-ZeroToggle : goal.returns-in-ZeroToggle
returns-in-ZeroToggle c = rw (c.in-ZeroToggle.is, c.ones-full.ensures) (inverse_bits c.args.width _ _ (xor_bits c.args.width _ _ _ _ (own_bits c.args.width _ c.requires.value) (own_bits c.args.width _ c.requires.payload)))

pub returns-in-Clear : goal.returns-in-Clear
returns-in-Clear c = rw c.in-Clear.is (no_bits c.args.width)

pub returns-in-Set : goal.returns-in-Set
returns-in-Set c = rw (c.in-Set.is, c.ones-full.ensures) (full_bits c.args.width)
