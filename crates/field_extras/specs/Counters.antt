-- The counter step (SystemRDL 2.0, clause 9, counter properties).
use Rattle.std.specs.Prelude.{ℕ, ◌-◌, ◌^◌, Bool, if◌then◌else◌, ℤ, pos, ◌+ℤ◌, ◌-ℤ◌, int_lt, nat_abs}
use Rattle.field_policies.specs.declared.extra.Counter.{Counter}
use Rattle.field_extras.specs.declared.counter.Counted.{Counted}

-- the greatest value of so many bits
abbrev pub top : ℕ → ℤ
top width = pos (2 ^ width - 1)

-- the value, with what it counts up and down, as a whole number
abbrev pub count : Counter → ℕ → Bool → Bool → ℤ
count counter value incr decr =
    pos value +ℤ pos (if incr then counter.up else 0) -ℤ pos (if decr then counter.down else 0)

-- the next value for this sum: past the greatest value it stops there or goes round, and below 0
-- likewise
abbrev pub held : Counter → ℤ → ℤ → ℤ
held counter top sum =
    if int_lt top sum then (if counter.up_stops then top else sum -ℤ top -ℤ pos 1)
    else (if int_lt sum (pos 0) then (if counter.down_stops then pos 0 else sum +ℤ top +ℤ pos 1)
    else sum)

abbrev pub counted : Counter → ℕ → ℕ → Bool → Bool → Counted
counted counter width value incr decr =
    let sum = count counter value incr decr in
    record {
      value = nat_abs (held counter (top width) sum);
      over = int_lt (top width) sum;
      under = int_lt sum (pos 0);
    }
