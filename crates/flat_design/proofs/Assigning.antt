-- The flow of an assignment.
use Rattle.std.proofs.Common.{◌≡◌, ◌⊎◌, inl, inr, ℕ, ◌+◌, ◌-◌, Bool, true, false, not, ◌||◌, ◌&&◌, List, [], ◌∷◌, ◌++◌, drop, Option, Some, None, refl, ◌∙◌, ap}
use Rattle.std.specs.Prelude.{if◌then◌else◌, is_some, unwrap_or, slice_index_or, nat_le, nat_lt}
use Rattle.std.specs.List.{list_any}
use Rattle.flat_design.specs.declared.net.Net.{Net}
use Rattle.flat_design.specs.declared.expr.FlatExpr.{FlatExpr}
use Rattle.flat_design.specs.declared.stmt.FlatLeft.{FlatLeft}
use Rattle.flat_design.specs.Bits.{Values, Agree, Offset, of_net, net_at, selected, offset_of}
use Rattle.flat_design.specs.Values.{Value, value}
use Rattle.flat_design.specs.Reads.{reads, constant_in, select_bits}
use Rattle.flat_design.specs.Statements.{State, Update, put, put_all, start_of, left_offset, update_of, left_size, updates_of, assigned}
use Rattle.flat_design.specs.Flows.{select_drives, part_drives, left_drives, is_fixed, part_fixes, left_fixes, index_reads, part_reads, left_reads, assign_flow}
use Rattle.flat_design.specs.Laws.{IsFlow}
use Rattle.flat_design.proofs.Frames.{expr_framed}
use Rattle.flat_design.proofs.FlowLemmas.{or_left, or_right, none_left, none_right}

-- ---- lists of updates, at one bit

-- none of them writes it
pub put_out : (us : List Update) (v : Values) (i : ℕ) → list_any (λ u. is_some (u i)) us ≡ false → put_all us v i ≡ v i
put_out [] v i h = refl
put_out (u ∷ us) v i h = put_out us (put u v) i (none_right (is_some (u i)) _ h) ∙ kept (u i) (v i) (none_left (is_some (u i)) _ h) where
  kept : (x : Option Bool) (y : Bool) → is_some x ≡ false → unwrap_or x y ≡ y
  kept None y h = refl
  kept (Some x) y h = absurd (cc h)

pub put_same : (us : List Update) (v w : Values) (i : ℕ) → v i ≡ w i → put_all us v i ≡ put_all us w i
put_same [] v w i h = h
put_same (u ∷ us) v w i h = put_same us (put u v) (put u w) i (ap (unwrap_or (u i)) h)

-- one of them writes it
pub put_fixed : (us : List Update) (v w : Values) (i : ℕ) → list_any (λ u. is_some (u i)) us ≡ true → put_all us v i ≡ put_all us w i
put_fixed [] v w i h = absurd (cc h)
put_fixed (u ∷ us) v w i h = go (is_some (u i)) refl (λ some. put_fixed us (put u v) (put u w) i some) where
  written : (x : Option Bool) (a b : Bool) → is_some x ≡ true → unwrap_or x a ≡ unwrap_or x b
  written None a b h = absurd (cc h)
  written (Some x) a b h = refl

  later : (x y : Bool) → x ≡ false → x || y ≡ true → y ≡ true
  later true y e h = absurd (cc e)
  later false y e h = h

  go : (b : Bool) → is_some (u i) ≡ b → (list_any (λ u. is_some (u i)) us ≡ true → put_all us (put u v) i ≡ put_all us (put u w) i) → put_all us (put u v) i ≡ put_all us (put u w) i
  go true e rest = put_same us (put u v) (put u w) i (written (u i) (v i) (w i) e)
  go false e rest = rest (later (is_some (u i)) _ e h)

pub put_append : (us ws : List Update) (v : Values) → put_all (us ++ ws) v ≡ put_all ws (put_all us v)
put_append [] ws v = refl
put_append (u ∷ us) ws v = put_append us ws (put u v)

-- ---- what the parts of a left side write

written_is : (net : Net) (o : Offset) (width : ℕ) (bits : List Bool) (i : ℕ) → is_some (update_of net o width bits i) ≡ selected net o width i
written_is net o width bits i = by (selected net o width i) where
  by : (b : Bool) → is_some (if b then Some (slice_index_or bits (i - net.first + o.1 - o.0) false) else None) ≡ b
  by true = refl
  by false = refl

selected_in : (net : Net) (o : Offset) (width i : ℕ) → of_net net i ≡ false → selected net o width i ≡ false
selected_in net o width i h = ap (λ b. b && (nat_le o.0 (i - net.first + o.1) && nat_lt (i - net.first + o.1 - o.0) width)) h

-- a constant index begins where it says; what isn't driven isn't selected
index_out : (net : Net) (f : Values → Value) (r : Option Value) (width i : ℕ) (v : Values) → ((x : Value) → r ≡ Some x → (v : Values) → f v ≡ x) → select_bits net r width i ≡ false → selected net (offset_of (f v).0 (f v).1 net.lsb) width i ≡ false
index_out net f None width i v fixed h = selected_in net (offset_of (f v).0 (f v).1 net.lsb) width i h
index_out net f (Some x) width i v fixed h = ap (λ y. selected net (offset_of y.0 y.1 net.lsb) width i) (fixed x refl v) ∙ h

part_out : (nets : List Net) (net : Net) (width : ℕ) (index : Option FlatExpr) (v : Values) (i : ℕ) → select_drives nets net width index i ≡ false → selected net (start_of nets v net index) width i ≡ false
part_out nets net width None v i h = h
part_out nets net width (Some e) v i h = index_out net (λ v. value nets v e) (constant_in nets e) width i v (expr_framed nets e).fixed h

index_in : (net : Net) (f : Values → Value) (r : Option Value) (width i : ℕ) (v : Values) → ((x : Value) → r ≡ Some x → (v : Values) → f v ≡ x) → is_some r && select_bits net r width i ≡ true → selected net (offset_of (f v).0 (f v).1 net.lsb) width i ≡ true
index_in net f None width i v fixed h = absurd (cc h)
index_in net f (Some x) width i v fixed h = ap (λ y. selected net (offset_of y.0 y.1 net.lsb) width i) (fixed x refl v) ∙ h

part_in : (nets : List Net) (net : Net) (width : ℕ) (index : Option FlatExpr) (v : Values) (i : ℕ) → is_fixed nets index && select_drives nets net width index i ≡ true → selected net (start_of nets v net index) width i ≡ true
part_in nets net width None v i h = h
part_in nets net width (Some e) v i h = index_in net (λ v. value nets v e) (constant_in nets e) width i v (expr_framed nets e).fixed h

neither : (x y : Bool) → x ≡ false → y ≡ false → x || y ≡ false
neither true y h k = absurd (cc h)
neither false y h k = k

pub left_out : (nets : List Net) (v : Values) (left : List FlatLeft) (bits : List Bool) (i : ℕ) → left_drives nets left i ≡ false → list_any (λ u. is_some (u i)) (updates_of nets v left bits) ≡ false
left_out nets v [] bits i h = refl
left_out nets v (l ∷ left) bits i h =
    neither _ _ (written_is (net_at nets l.net) (left_offset nets v l) l.width (drop (left_size left) bits) i ∙ part_out nets (net_at nets l.net) l.width l.index v i (none_left (part_drives nets l i) _ h))
    (left_out nets v left bits i (none_right (part_drives nets l i) _ h))

pub left_in : (nets : List Net) (v : Values) (left : List FlatLeft) (bits : List Bool) (i : ℕ) → left_fixes nets left i ≡ true → list_any (λ u. is_some (u i)) (updates_of nets v left bits) ≡ true
left_in nets v [] bits i h = absurd (cc h)
left_in nets v (l ∷ left) bits i h = split (part_fixes nets l i) refl (λ h. left_in nets v left bits i h) where
  later : (x y : Bool) → x ≡ false → x || y ≡ true → y ≡ true
  later true y e h = absurd (cc e)
  later false y e h = h

  split : (b : Bool) → part_fixes nets l i ≡ b → (left_fixes nets left i ≡ true → list_any (λ u. is_some (u i)) (updates_of nets v left bits) ≡ true) → list_any (λ u. is_some (u i)) (updates_of nets v (l ∷ left) bits) ≡ true
  split true e rest = or_left _ _ (written_is (net_at nets l.net) (left_offset nets v l) l.width (drop (left_size left) bits) i ∙ part_in nets (net_at nets l.net) l.width l.index v i e)
  split false e rest = or_right _ _ (rest (later (part_fixes nets l i) _ e h))

-- the same indexes and the same value give the same updates
start_same : (nets : List Net) (net : Net) (index : Option FlatExpr) (v w : Values) → Agree (index_reads nets index) v w → start_of nets v net index ≡ start_of nets w net index
start_same nets net None v w agree = refl
start_same nets net (Some e) v w agree = ap (λ x. offset_of x.0 x.1 net.lsb) ((expr_framed nets e).frame v w agree)

pub updates_same : (nets : List Net) (v w : Values) (left : List FlatLeft) (bits : List Bool) → Agree (left_reads nets left) v w → updates_of nets v left bits ≡ updates_of nets w left bits
updates_same nets v w [] bits agree = refl
updates_same nets v w (l ∷ left) bits agree =
    let start : left_offset nets v l ≡ left_offset nets w l = start_same nets (net_at nets l.net) l.index v w (λ i on. agree i (or_left (part_reads nets l i) _ on)) in
    let rest = updates_same nets v w left bits (λ i on. agree i (or_right (part_reads nets l i) _ on)) in
    λ i. update_of (net_at nets l.net) (start i) l.width (drop (left_size left) bits) ∷ rest i

-- ---- the assignment

updates_at : List Net → List FlatLeft → FlatExpr → Values → List Update
updates_at nets left val v = updates_of nets v left (value nets v val).1

written_same : (nets : List Net) (left : List FlatLeft) (val : FlatExpr) (v w : Values) → Agree (λ i. reads nets val i || left_reads nets left i) v w → updates_at nets left val v ≡ updates_at nets left val w
unfolding updates_at
written_same nets left val v w agree =
    ap (λ x. updates_of nets v left x.1) ((expr_framed nets val).frame v w (λ i on. agree i (or_left (reads nets val i) _ on)))
    ∙ updates_same nets v w left (value nets w val).1 (λ i on. agree i (or_right (reads nets val i) _ on))

pub assigned_flow : (nets : List Net) (left : List FlatLeft) (val : FlatExpr) (later : Bool) → IsFlow (λ s. assigned later (updates_of nets s.now left (value nets s.now val).1) s) (assign_flow nets left val later)
unfolding updates_at
assigned_flow nets left val true = record {
  stays = λ s i out. refl;
  same = λ s t agree i either. before (s.now i ≡ t.now i) either;
  later = λ s t agree e. (λ i. e i ++ written_same nets left val s.now t.now agree i);
  kept = λ s v i out. ap (λ f. f i) (put_append s.later (updates_at nets left val s.now) v) ∙ put_out (updates_at nets left val s.now) (put_all s.later v) i (left_out nets s.now left (value nets s.now val).1 i out);
} where
  before : (P : Type 0) → P ⊎ (true ≡ false) → P
  before P (inl e) = e
  before P (inr h) = absurd (cc h)
assigned_flow nets left val false = record {
  stays = λ s i out. put_out (updates_at nets left val s.now) s.now i (left_out nets s.now left (value nets s.now val).1 i out);
  same = λ s t agree i either. ap (λ us. put_all us s.now i) (written_same nets left val s.now t.now agree) ∙ known s t i either;
  later = λ s t agree e. e;
  kept = λ s v i out. refl;
} where
  written : (b : Bool) → not b ≡ false → b ≡ true
  written true h = refl
  written false h = absurd (cc h)

  known : (s t : State) (i : ℕ) → (s.now i ≡ t.now i) ⊎ (not (left_fixes nets left i) ≡ false) → put_all (updates_of nets t.now left (value nets t.now val).1) s.now i ≡ put_all (updates_of nets t.now left (value nets t.now val).1) t.now i
  known s t i (inl e) = put_same (updates_of nets t.now left (value nets t.now val).1) s.now t.now i e
  known s t i (inr h) = put_fixed (updates_of nets t.now left (value nets t.now val).1) s.now t.now i (left_in nets t.now left (value nets t.now val).1 i (written (left_fixes nets left i) h))
