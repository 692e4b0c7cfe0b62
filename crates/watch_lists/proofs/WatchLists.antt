-- Lists of watches, by the literal, and the copies of clauses in one table.
use Rattle.std.specs.declared.alloc.AllocError.{AllocError}
use Rattle.std.proofs.Common.{Result, Ok, Err, OnErr, ◌≡◌, ◌≢◌, ℕ, ◌+◌, ◌-◌, ◌<◌, ◌≤◌, List, [], ◌∷◌, ◌++◌, length, take, drop, get_or, set, ap, ◌∙◌, sym, inl, inr, arith}
use Rattle.std.specs.List.{swap_remove}
use Rattle.std.specs.declared.vec.Vec.{Vec}
use Rattle.std.specs.declared.alloc.Global.{Global}
use Rattle.std.proofs.lemmas.Bool.{cases_order}
use Rattle.std.proofs.Math.Seq.{map-set_same, take-append_seam}
use Rattle.std.proofs.lemmas.List.{length_push, set-set, set-get_or, length-map, map-set, get_or-map, get_or-set_same, get_or-set_other, get_or_default}
use Rattle.std.proofs.lemmas.Slice.{between_is, between-put_mid, take-put_mid_below, drop-put_mid}
use Rattle.std.specs.Vec.{with_item, vec_len}
use Rattle.std.proofs.lemmas.List.Edits.{length-between}
use borrow.Rule.Slice.PartMut.{put_mid}
use Rattle.lemma_checker.specs.declared.literal.Literal.{Literal}
use Rattle.watch_lists.specs.declared.watch.Watch.{Watch}
use Rattle.watch_lists.specs.Watching.{copy, lists_of, list_at, IsTable}

-- the list of a literal
pub list_read : (ls : List (Vec Watch Global)) (l : ℕ) (v : Vec Watch Global) → l < length ls → v ≡ get_or ls l v → list_at (lists_of ls) l ≡ v.items
list_read ls l v lt is = get_or-map (λ (w : Vec Watch Global). w.items) ls l v [] lt ∙ ap (λ (w : Vec Watch Global). w.items) (sym is)

-- one list changed
pub list_set : (ls : List (Vec Watch Global)) (l : ℕ) (v : Vec Watch Global) → lists_of (set ls l v) ≡ set (lists_of ls) l v.items
list_set ls l v = map-set (λ (w : Vec Watch Global). w.items) ls l v

pub list_other : (ls : List (List Watch)) (l m : ℕ) (ws : List Watch) → m ≢ l → list_at (set ls l ws) m ≡ list_at ls m
list_other ls l m ws away = get_or-set_other ls l m ws [] away

pub list_same : (ls : List (List Watch)) (l : ℕ) (ws : List Watch) → l < length ls → list_at (set ls l ws) l ≡ ws
list_same ls l ws lt = get_or-set_same ls l ws [] lt

-- the default that `swap_remove` never reads
pub swap_remove_default : (xs : List Watch) (i : ℕ) (d e : Watch) → i < length xs → swap_remove xs i d ≡ swap_remove xs i e
swap_remove_default xs i d e lt = ap (λ (y : Watch). take (length xs - 1) (set xs i y)) (get_or_default xs (length xs - 1) d e (omega arith))

-- the copy after a write to it, and the others
pub copy_same : (ls new : List Literal) (starts : List ℕ) (k : ℕ) → IsTable ls starts → k + 1 < length starts → length new ≡ get_or starts (k + 1) 0 - get_or starts k 0 → copy (put_mid (get_or starts k 0) (get_or starts (k + 1) 0 - get_or starts k 0) ls new) starts k ≡ new
copy_same ls new starts k table lt long = between-put_mid (get_or starts k 0) (get_or starts (k + 1) 0 - get_or starts k 0) ls new (get_or starts (k + 1) 0) (table.inside k (omega arith)) long

pub copy_other : (ls new : List Literal) (starts : List ℕ) (k j : ℕ) → IsTable ls starts → k + 1 < length starts → j + 1 < length starts → j ≢ k → length new ≡ get_or starts (k + 1) 0 - get_or starts k 0 → copy (put_mid (get_or starts k 0) (get_or starts (k + 1) 0 - get_or starts k 0) ls new) starts j ≡ copy ls starts j
copy_other ls new starts k j table lt_k lt_j away long =
    let a : ℕ = get_or starts k 0 in
    let n : ℕ = get_or starts (k + 1) 0 - get_or starts k 0 in
    let p : ℕ = get_or starts j 0 in
    let q : ℕ = get_or starts (j + 1) 0 in
    elim (cases_order j k) [
      | inl e ↦ absurd (away e)
      | inr other ↦ elim other [
        | inl lower ↦
            let up : q ≤ a = table.rising (j + 1) k (omega arith) (omega arith) in
            between_is (put_mid a n ls new) p q ∙ (ap (drop p) (take-put_mid_below a n ls new q up (table.inside k (omega arith))) ∙ sym (between_is ls p q))
        | inr higher ↦
            let low : get_or starts (k + 1) 0 ≤ p = table.rising (k + 1) j (omega arith) (omega arith) in
            let base : a ≤ get_or starts (k + 1) 0 = table.rising k (k + 1) (omega arith) lt_k in
            ap (take (q - p)) (drop-put_mid a n ls new p (omega arith) (table.inside k (omega arith)) long)
      ]
    ]

-- a watch that went from one list to another
pub moved_lists : (ls : List (Vec Watch Global)) (f t i : ℕ) (w d : Watch) (a b x y : Vec Watch Global) → t < length ls → f < length ls → t ≢ f → i < length (list_at (lists_of ls) f) → a.items ≡ (get_or ls t x).items ++ w ∷ [] → b.items ≡ swap_remove (get_or (set ls t a) f y).items i d → lists_of (set (set ls t a) f b) ≡ set (set (lists_of ls) t (list_at (lists_of ls) t ++ w ∷ [])) f (swap_remove (list_at (lists_of ls) f) i w)
moved_lists ls f t i w d a b x y lt_t lt_f away within pushed removed =
    let at_t : (get_or ls t x).items ≡ list_at (lists_of ls) t = sym (get_or-map (λ (v : Vec Watch Global). v.items) ls t x [] lt_t) in
    let at_f : (get_or (set ls t a) f y).items ≡ list_at (lists_of ls) f = ap (λ (v : Vec Watch Global). v.items) (get_or-set_other ls t f a y (λ e. away (sym e))) ∙ sym (get_or-map (λ (v : Vec Watch Global). v.items) ls f y [] lt_f) in
    let a_is : a.items ≡ list_at (lists_of ls) t ++ w ∷ [] = pushed ∙ ap (λ (q : List Watch). q ++ w ∷ []) at_t in
    let b_is : b.items ≡ swap_remove (list_at (lists_of ls) f) i w = removed ∙ (ap (λ (q : List Watch). swap_remove q i d) at_f ∙ swap_remove_default (list_at (lists_of ls) f) i d w within) in
    list_set (set ls t a) f b ∙ (ap (λ (q : List (List Watch)). set q f b.items) (list_set ls t a) ∙ (ap (λ (q : List Watch). set (set (lists_of ls) t q) f b.items) a_is ∙ ap (λ (q : List Watch). set (set (lists_of ls) t (list_at (lists_of ls) t ++ w ∷ [])) f q) b_is))

-- a watch in the place of another one
pub set_lists : (ls : List (Vec Watch Global)) (l i : ℕ) (w : Watch) (d : Vec Watch Global) → l < length ls → lists_of (set ls l (with_item (get_or ls l d) i w)) ≡ set (lists_of ls) l (set (list_at (lists_of ls) l) i w)
set_lists ls l i w d lt = list_set ls l (with_item (get_or ls l d) i w) ∙ ap (λ (q : List Watch). set (lists_of ls) l (set q i w)) (sym (get_or-map (λ (v : Vec Watch Global). v.items) ls l d [] lt))

pub length_copy : (ls : List Literal) (starts : List ℕ) (k : ℕ) → IsTable ls starts → k + 1 < length starts → length (copy ls starts k) ≡ get_or starts (k + 1) 0 - get_or starts k 0
length_copy ls starts k table lt = length-between ls (get_or starts k 0) (get_or starts (k + 1) 0) (table.inside (k + 1) lt)

pub length_lists : (ls : List (Vec Watch Global)) → length (lists_of ls) ≡ length ls
length_lists ls = length-map ls (λ (v : Vec Watch Global). v.items)

-- a watch more in two lists
pub both_lists : (ls : List (Vec Watch Global)) (f s : ℕ) (w v : Watch) (a b x y : Vec Watch Global) → f < length ls → s < length ls → f ≢ s → a.items ≡ (get_or ls f x).items ++ w ∷ [] → b.items ≡ (get_or (set ls f a) s y).items ++ v ∷ [] → lists_of (set (set ls f a) s b) ≡ set (set (lists_of ls) f (list_at (lists_of ls) f ++ w ∷ [])) s (list_at (lists_of ls) s ++ v ∷ [])
both_lists ls f s w v a b x y lt_f lt_s away one two =
    let at_f : (get_or ls f x).items ≡ list_at (lists_of ls) f = sym (get_or-map (λ (v : Vec Watch Global). v.items) ls f x [] lt_f) in
    let at_s : (get_or (set ls f a) s y).items ≡ list_at (lists_of ls) s = ap (λ (v : Vec Watch Global). v.items) (get_or-set_other ls f s a y (λ e. away (sym e))) ∙ sym (get_or-map (λ (v : Vec Watch Global). v.items) ls s y [] lt_s) in
    let a_is : a.items ≡ list_at (lists_of ls) f ++ w ∷ [] = one ∙ ap (λ (q : List Watch). q ++ w ∷ []) at_f in
    let b_is : b.items ≡ list_at (lists_of ls) s ++ v ∷ [] = two ∙ ap (λ (q : List Watch). q ++ v ∷ []) at_s in
    list_set (set ls f a) s b ∙ (ap (λ (q : List (List Watch)). set q s b.items) (list_set ls f a) ∙ (ap (λ (q : List Watch). set (set (lists_of ls) f q) s b.items) a_is ∙ ap (λ (q : List Watch). set (set (lists_of ls) f (list_at (lists_of ls) f ++ w ∷ [])) s q) b_is))

-- a list that has the same watches again
pub one_list : (r : Result (Unit {0}) AllocError) (ls : List (Vec Watch Global)) (f : ℕ) (a x : Vec Watch Global) → a.items ≡ (get_or ls f x).items → OnErr r (lists_of (set ls f a) ≡ lists_of ls)
one_list (Ok u) ls f a x same = tt
one_list (Err e) ls f a x same = map-set_same (λ (v : Vec Watch Global). v.items) ls f a x same

-- a watch that was put into a list and taken back
pub back_lists : (ls : List (Vec Watch Global)) (f s : ℕ) (w : Watch) (a b d x y z : Vec Watch Global) → f < length ls → f ≢ s → a.items ≡ (get_or ls f x).items ++ w ∷ [] → b.items ≡ (get_or (set ls f a) s y).items → d.items ≡ take (vec_len (get_or (set (set ls f a) s b) f z) - 1) (get_or (set (set ls f a) s b) f z).items → lists_of (set (set (set ls f a) s b) f d) ≡ lists_of ls
back_lists ls f s w a b d x y z lt away pushed kept popped =
    let old : List Watch = list_at (lists_of ls) f in
    let is_a : get_or (set (set ls f a) s b) f z ≡ a = get_or-set_other (set ls f a) s f b z away ∙ get_or-set_same ls f a z lt in
    let at_f : (get_or ls f x).items ≡ old = sym (get_or-map (λ (v : Vec Watch Global). v.items) ls f x [] lt) in
    let a_is : a.items ≡ old ++ w ∷ [] = pushed ∙ ap (λ (q : List Watch). q ++ w ∷ []) at_f in
    let count : vec_len a - 1 ≡ length old = omega (arith, a.ok.0, ap length a_is, length_push old w) in
    let d_is : d.items ≡ old = popped ∙ (ap (λ (v : Vec Watch Global). take (vec_len v - 1) v.items) is_a ∙ (ap (λ (n : ℕ). take n a.items) count ∙ (ap (take (length old)) a_is ∙ take-append_seam old (w ∷ [])))) in
    let between : lists_of (set (set ls f a) s b) ≡ set (lists_of ls) f a.items = map-set_same (λ (v : Vec Watch Global). v.items) (set ls f a) s b y kept ∙ list_set ls f a in
    list_set (set (set ls f a) s b) f d ∙ (ap (λ (q : List (List Watch)). set q f d.items) between ∙ (set-set (lists_of ls) f a.items d.items ∙ (ap (set (lists_of ls) f) d_is ∙ set-get_or (lists_of ls) f [])))
