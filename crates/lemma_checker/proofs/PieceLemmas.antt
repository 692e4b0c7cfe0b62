-- Lists of clauses cut out of one list of literals.
use Rattle.std.proofs.Common.{◌≡◌, ℕ, zero, suc, ◌+◌, ◌-◌, ◌<◌, ◌≤◌, List, [], ◌∷◌, ◌++◌, length, take, drop, get_or, Some, slice_get, slice_range, refl, ap, ◌∙◌, sym, subst, inl, inr, arith, add-one}
use Rattle.std.proofs.lemmas.Option.{slice_get_within}
use Rattle.std.proofs.lemmas.Slice.{between_is}
use Rattle.std.proofs.lemmas.List.{get_or_default, take-append-le, drop_at, take_all, length-append, length_push, get_or_append_left, get_or_at}
use Rattle.lemma_checker.specs.declared.literal.Literal.{Literal}
use Rattle.lemma_checker.specs.Clauses.{AreDistinct}
use Rattle.lemma_checker.specs.Pieces.{pieces, start_at, AreClauses}
use Rattle.lemma_checker.proofs.ListLemmas.{get_push}

pub length_pieces : (literals : List Literal) (start : ℕ) (ends : List ℕ) → length (pieces literals start ends) ≡ length ends
length_pieces literals start [] = refl
length_pieces literals start (e ∷ es) = ap suc (length_pieces literals e es)

-- a later piece starts where the one before it ends
next_start : (start e : ℕ) (es : List ℕ) (j : ℕ) → j ≤ length es → start_at e es j ≡ get_or (e ∷ es) j start
next_start start e es zero le = refl
next_start start e es (suc k) le = get_or_default es k e start (omega arith)

pub get_piece : (literals : List Literal) (start : ℕ) (ends : List ℕ) (i d : ℕ) → i < length ends → slice_get (pieces literals start ends) i ≡ Some (slice_range literals (start_at start ends i) (get_or ends i d))
get_piece literals start [] i d lt = absurd (omega (arith, lt))
get_piece literals start (e ∷ es) zero d lt = refl
get_piece literals start (e ∷ es) (suc j) d lt =
    get_piece literals e es j d (omega arith) ∙ ap (λ (s : ℕ). Some (slice_range literals s (get_or es j d))) (next_start start e es j (omega arith))

pieces_push : (literals : List Literal) (start : ℕ) (ends : List ℕ) (e : ℕ) → pieces literals start (ends ++ e ∷ []) ≡ pieces literals start ends ++ slice_range literals (start_at start ends (length ends)) e ∷ []
pieces_push literals start [] e = refl
pieces_push literals start (x ∷ es) e =
    ap (λ (z : List (List Literal)). slice_range literals start x ∷ z)
    (pieces_push literals x es e ∙ ap (λ (s : ℕ). pieces literals x es ++ slice_range literals s e ∷ []) (next_start start x es (length es) (omega arith)))

-- literals behind the ends change no piece
pieces_grow : (literals more : List Literal) (start : ℕ) (ends : List ℕ) → ((i e : ℕ) → slice_get ends i ≡ Some e → e ≤ length literals) → pieces (literals ++ more) start ends ≡ pieces literals start ends
pieces_grow literals more start [] within = refl
pieces_grow literals more start (e ∷ es) within =
    let here : e ≤ length literals = within 0 e refl in
    let same : slice_range (literals ++ more) start e ≡ slice_range literals start e = between_is (literals ++ more) start e ∙ (ap (drop start) (take-append-le e literals more here) ∙ sym (between_is literals start e)) in
    let rest : pieces (literals ++ more) e es ≡ pieces literals e es = pieces_grow literals more e es (λ i x is. within (suc i) x is) in
    cc

last_piece : (literals clause : List Literal) (start end : ℕ) → start ≡ length literals → end ≡ length literals + length clause → slice_range (literals ++ clause) start end ≡ clause
last_piece literals clause start end s e =
    let enough : length clause ≤ end - start = omega arith in
    ap (take (end - start)) (drop_at literals clause start (sym s)) ∙ take_all (end - start) clause enough

-- one clause more
pub pieces_more : (literals clause : List Literal) (ends : List ℕ) → AreClauses literals ends → pieces (literals ++ clause) 0 (ends ++ (length literals + length clause) ∷ []) ≡ pieces literals 0 ends ++ clause ∷ []
pieces_more literals clause ends a =
    let n : ℕ = length literals + length clause in
    let old : pieces (literals ++ clause) 0 ends ≡ pieces literals 0 ends = pieces_grow literals clause 0 ends a.within in
    let new : slice_range (literals ++ clause) (start_at 0 ends (length ends)) n ≡ clause = last_piece literals clause _ n a.whole refl in
    let pushed : pieces (literals ++ clause) 0 (ends ++ n ∷ []) ≡ pieces (literals ++ clause) 0 ends ++ slice_range (literals ++ clause) (start_at 0 ends (length ends)) n ∷ [] = pieces_push (literals ++ clause) 0 ends n in
    cc

start_push : (ends : List ℕ) (n i : ℕ) → i ≤ length ends → start_at 0 (ends ++ n ∷ []) i ≡ start_at 0 ends i
start_push ends n zero le = refl
start_push ends n (suc i) le = get_or_append_left ends (n ∷ []) 0 i (omega arith)

start_last : (ends : List ℕ) (n : ℕ) → start_at 0 (ends ++ n ∷ []) (length (ends ++ n ∷ [])) ≡ n
start_last ends n = subst (λ (k : ℕ). start_at 0 (ends ++ n ∷ []) k ≡ n) (sym (length_push ends n ∙ add-one (length ends))) (get_or_at ends n [] 0 (length ends) refl)

pub clauses_more : (literals clause : List Literal) (ends : List ℕ) → AreClauses literals ends → AreDistinct clause → AreClauses (literals ++ clause) (ends ++ (length literals + length clause) ∷ [])
clauses_more literals clause ends a d = record {
  rising = λ i e is. elim (get_push ends (length literals + length clause) i e is) [
    | inl old ↦ let lt : i < length ends = slice_get_within ends i e old in omega (arith, start_push ends (length literals + length clause) i (omega arith), a.rising i e old)
    | inr new ↦ omega (arith, ap (start_at 0 (ends ++ (length literals + length clause) ∷ [])) new.0, start_push ends (length literals + length clause) (length ends) (omega arith), a.whole, new.1)
  ];
  within = λ i e is. elim (get_push ends (length literals + length clause) i e is) [
    | inl old ↦ omega (arith, a.within i e old, length-append literals clause)
    | inr new ↦ omega (arith, new.1, length-append literals clause)
  ];
  whole = start_last ends (length literals + length clause) ∙ sym (length-append literals clause);
  distinct = λ i c is. elim (get_push (pieces literals 0 ends) clause i c (sym (ap (λ (z : List (List Literal)). slice_get z i) (pieces_more literals clause ends a)) ∙ is)) [
    | inl old ↦ a.distinct i c old
    | inr new ↦ subst AreDistinct (sym new.1) d
  ];
}
