-- Signals that differ.
use Rattle.std.proofs.Common.{◌≡◌, Bool, true, false, not, ◌||◌, ◌==◌, Option, Some, None, refl, sym, ◌∙◌, ap, eq-eqb}
use Rattle.std.proofs.lemmas.Bool.{eqb-true}
use Rattle.bit_base.specs.Operators as bits
use Rattle.flat_clocks.specs.declared.signal.Signal.{Signal}
use Rattle.flat_clocks.specs.declared.signal.Seen.{Seen}
use Rattle.flat_clocks.specs.declared.signal.Seen.TheVariants as S
use Rattle.flat_clocks.specs.Signals.{differ, differs_from}

none_left : (x y : Bool) → not x || y ≡ false → x ≡ true
none_left true y h = refl
none_left false y h = cc

none_right : (x y : Bool) → not x || y ≡ false → y ≡ false
none_right true y h = h
none_right false y h = cc

level : (x y : Bool) → bits.differ x y ≡ false → x ≡ y
level true true h = refl
level true false h = cc
level false true h = cc
level false false h = refl

level_self : (x : Bool) → bits.differ x x ≡ false
level_self true = refl
level_self false = refl

equal_of : (a b : Signal) → differ (Some a) (Some b) ≡ false → a ≡ b
equal_of a b h =
    let n = eqb-true a.net b.net (none_left (a.net == b.net) (bits.differ a.high b.high) h) in
    let l = level a.high b.high (none_right (a.net == b.net) (bits.differ a.high b.high) h) in
    λ i. record { net = n i; high = l i }

by_parts : (x y : Bool) → x ≡ true → y ≡ false → not x || y ≡ false
by_parts true y h k = k
by_parts false y h k = cc

not_itself : (a : Signal) → differ (Some a) (Some a) ≡ false
not_itself a = by_parts (a.net == a.net) (bits.differ a.high a.high) (eq-eqb a.net a.net refl) (level_self a.high)

or_twice : (x : Bool) → x ≡ x || x
or_twice true = refl
or_twice false = refl

pub one_still : (a b : Signal) (c : Option Signal) → differ (Some a) (Some b) ≡ false → differ (Some a) c ≡ differ (Some a) c || differ (Some b) c
one_still a b c h = or_twice (differ (Some a) c) ∙ ap (λ s. differ (Some a) c || differ (Some s) c) (equal_of a b h)

two_seen : (a b c : Signal) → differ (Some a) (Some b) ≡ true → (x y : Bool) → x ≡ differ (Some a) (Some c) → y ≡ differ (Some b) (Some c) → true ≡ x || y
two_seen a b c h true y e f = refl
two_seen a b c h false true e f = refl
two_seen a b c h false false e f =
    let p : a ≡ c = equal_of a c (sym e) in
    let q : b ≡ c = equal_of b c (sym f) in
    absurd (no (differ (Some a) (Some b)) h (ap (λ s. differ (Some a) (Some s)) (q ∙ sym p) ∙ not_itself a)) where
      no : (x : Bool) → x ≡ true → x ≡ false → ⊥
      no x h k = cc

pub two_differ : (a b : Signal) (c : Option Signal) → differ (Some a) (Some b) ≡ true → differs_from S.Several c ≡ differ (Some a) c || differ (Some b) c
two_differ a b None h = refl
two_differ a b (Some c) h = two_seen a b c h _ _ refl refl

out_of : (x : Bool) → x ≡ x || false
out_of true = refl
out_of false = refl

pub none_more : (seen : Seen) (s b : Option Signal) → s ≡ None → differs_from seen b ≡ differs_from seen b || differ s b
none_more seen s b e = out_of (differs_from seen b) ∙ ap (λ t. differs_from seen b || differ t b) (sym e)

all_differ : (s b : Option Signal) → differs_from S.Several b ≡ differs_from S.Several b || differ s b
all_differ s (Some c) = refl
all_differ None None = refl
all_differ (Some a) None = refl

pub still_several : (seen : Seen) (s b : Option Signal) → seen ≡ S.Several → differs_from S.Several b ≡ differs_from seen b || differ s b
still_several seen s b e = all_differ s b ∙ ap (λ t. differs_from t b || differ s b) (sym e)
