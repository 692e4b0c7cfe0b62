-- Why the rows stop that bear only so many levels.
use Rattle.std.proofs.Common.{◌≡◌, ◌⊎◌, ℕ, ◌+◌, ◌-◌, ◌<◌, ◌≤◌, inl, inr, List, [], ◌∷◌, ◌++◌, length, take, drop, get_or, Ok, Err, refl, sym, ◌∙◌, ap, subst, append_assoc, length-append, length-take, arith}
use Rattle.std.proofs.Math.Seq.{take-append_seam}
use Rattle.std.proofs.lemmas.List.{take-append-drop}
use Rattle.parsing.specs.Parser.{Refused, Sunk, Outcome}
use Rattle.bit_base.specs.declared.place.Place.{Place}
use Rattle.vlog_tree.specs.declared.token.VToken.{VToken}
use Rattle.vlog_tree.specs.declared.token.VTokens.{VTokens}
use Rattle.vlog_tree.specs.declared.tree_modules.VModule.{VModule}
use Rattle.vlog_tree.specs.Terminals.{Tokens}
use Rattle.vlog_tree.specs.ReadModules.{source}
use Rattle.vlog_parse.specs.Nesting.{most_levels, source_in}
use Rattle.vlog_parse.specs.Refusal.{Continues, HasNoReading, IsFirstFault, IsFirstNested, IsFlat, place_of}
use Rattle.vlog_parse.specs.Cut.{StopsWith}
use Rattle.vlog_parse.proofs.Fronts.{split_at, take_one}
use Rattle.vlog_parse.proofs.Nesting.{source_whole}
use Rattle.vlog_parse.proofs.Theorem.{cut_read, cut_never, cut_ends, cut_fault}

refused_same : {A : Type 0} (xs ys : Tokens) → ◌≡◌ {A = Outcome VToken A} (Err (Refused xs)) (Err (Refused ys)) → xs ≡ ys
refused_same xs ys e = cc

ok_not_refused : {A : Type 0} (x : A × Tokens) (ys : Tokens) → ◌≡◌ {A = Outcome VToken A} (Ok x) (Err (Refused ys)) → ⊥
ok_not_refused x ys e = cc

-- what is read nests no deeper than is borne
pub flat_of_read : (ts : Tokens) (xs : List VModule) (rest : Tokens) → source_in (length ts + 1) most_levels ts ≡ Ok (xs, rest) → IsFlat ts
flat_of_read ts xs rest e (place, n) = ok_not_refused (xs, rest) n.rest (sym e ∙ n.stops)

pub nested_left : (ts rest : Tokens) → StopsWith ts rest → (place : Place) (n : IsFirstNested ts place) → length rest ≡ length (n.token ∷ n.more)
nested_left ts rest stops place n = ap length (refused_same {A = List VModule} rest n.rest (sym stops ∙ n.stops)) ∙ n.left

pub nested_length : (ts : Tokens) (place : Place) (n : IsFirstNested ts place) → length ts ≡ length n.front + length (n.token ∷ n.more)
nested_length ts place n = ap length n.split ∙ length-append n.front (n.token ∷ n.more)

pub flat_of_left : (ts rest : Tokens) (left : ℕ) → StopsWith ts rest → length rest ≡ left → (left ≡ 0) ⊎ (length ts < left) → IsFlat ts
flat_of_left ts rest left stops e (inl none) (place, n) = let h = nested_left ts rest stops place n in omega arith
flat_of_left ts rest left stops e (inr more) (place, n) =
    let h = nested_left ts rest stops place n in let g = nested_length ts place n in omega arith

-- with no limit on levels, what is read is what the grammar's rows read
pub at_whole : (ts list cursor : Tokens) (o : Outcome VToken (List VModule)) → list ≡ ts → cursor ≡ list → source_in (length list + 1) (length list + 1 + 1056) cursor ≡ o → source (length ts + 1) ts ≡ o
at_whole ts list cursor o e h i =
    ap (λ f. f ts) (sym (source_whole (length ts + 1) (length ts + 1 + 1056) (omega arith))) ∙ ap (λ us. source_in (length us + 1) (length us + 1 + 1056) us) (sym e)
    ∙ ap (λ us. source_in (length list + 1) (length list + 1 + 1056) us) (sym h) ∙ i

pub at_levels : (ts list cursor : Tokens) (o : Outcome VToken (List VModule)) → list ≡ ts → cursor ≡ list → source_in (length list + 1) 2112 cursor ≡ o → source_in (length ts + 1) most_levels ts ≡ o
at_levels ts list cursor o e h i = ap (λ us. source_in (length us + 1) 2112 us) (sym e) ∙ ap (λ us. source_in (length list + 1) 2112 us) (sym h) ∙ i

module _ (ts rest : Tokens) (left at : ℕ) (stops : StopsWith ts rest) (e : length rest ≡ left) (some : 0 < left) (few : left ≤ length ts) (here : at ≡ length ts - left) where
  -- the token with which too much stands in one another
  nested_at : (t : VToken) → t ≡ get_or ts at t → Continues (take (at + 1) ts) → (place : Place) → place ≡ t.place → IsFirstNested ts place
  nested_at t is c place p =
      let below : at < length ts = omega arith in
      let split : ts ≡ take at ts ++ t ∷ drop (at + 1) ts = split_at ts at t below is in
      let long : length ts ≡ length (take at ts) + length (t ∷ drop (at + 1) ts) = ap length split ∙ length-append (take at ts) (t ∷ drop (at + 1) ts) in
      let front : length (take at ts) ≡ at = simp length-take (omega arith) in
      record {
        front = take at ts;
        token = t;
        more = drop (at + 1) ts;
        split = split;
        here = p;
        goes_on = subst Continues (take_one ts at t below is) c;
        rest = rest;
        stops = stops;
        left = omega (arith, long, front, below);
      }

  seen_of : (place : Place) (n : IsFirstNested ts place) → n.front ++ n.token ∷ [] ≡ take (at + 1) ts
  seen_of place n =
      let h = nested_left ts rest stops place n in
      let g = nested_length ts place n in
      let long : length (n.front ++ n.token ∷ []) ≡ length n.front + 1 = length-append n.front (n.token ∷ []) in
      let same : length (n.front ++ n.token ∷ []) ≡ at + 1 = omega (arith, h, g, long) in
      sym (take-append_seam (n.front ++ n.token ∷ []) n.more) ∙ ap (λ k. take k ((n.front ++ n.token ∷ []) ++ n.more)) same
      ∙ ap (take (at + 1)) (append_assoc n.front (n.token ∷ []) n.more ∙ sym n.split)

  -- the first impossible token among those up to it
  impossible_at : (tokens : VTokens) → tokens.list ≡ ts → (stuck : Tokens) → source (length (take (at + 1) ts) + 1) (take (at + 1) ts) ≡ Err (Refused stuck) → 0 < length stuck
      → IsFlat ts × (HasNoReading ts × IsFirstFault tokens (place_of stuck tokens.end))
  impossible_at tokens list stuck o more =
      let f = cut_fault tokens (take (at + 1) ts) (drop (at + 1) ts) stuck (list ∙ sym (take-append-drop (at + 1) ts)) o more in
      ((λ n. f.0 (subst Continues (seen_of n.0 n.1) n.1.goes_on)), (subst HasNoReading list f.1.0, f.1.1))

module _ (tokens : VTokens) (list seen cursor : Tokens) (left at : ℕ) (same : list ≡ tokens.list) (given : (rest : Tokens) × (StopsWith tokens.list rest × (length rest ≡ left)))
    (stop : (0 < left) × ((left ≤ length list) × (at ≡ length list - left))) (front : seen ≡ take (at + 1) list) (fresh : cursor ≡ seen) where
  few : left ≤ length tokens.list
  few = subst (λ us. left ≤ length us) same stop.1.0

  place_is : at ≡ length tokens.list - left
  place_is = stop.1.1 ∙ ap (λ us. length us - left) same

  whole : (o : Outcome VToken (List VModule)) → source_in (length seen + 1) (length seen + 1 + 1056) cursor ≡ o → source (length (take (at + 1) tokens.list) + 1) (take (at + 1) tokens.list) ≡ o
  whole o h = at_whole (take (at + 1) tokens.list) seen cursor o (front ∙ ap (take (at + 1)) same) fresh h

  there : (t : VToken) → t ≡ get_or list at t → t ≡ get_or tokens.list at t
  there t is = is ∙ ap (λ us. get_or us at t) same

  pub read_on : (xs : List VModule) (rest : Tokens) → source_in (length seen + 1) (length seen + 1 + 1056) cursor ≡ Ok (xs, rest) → (t : VToken) → t ≡ get_or list at t → IsFirstNested tokens.list t.place
  read_on xs rest h t is =
      nested_at tokens.list given.0 left at given.1.0 given.1.1 stop.0 few place_is t (there t is) (cut_read (take (at + 1) tokens.list) xs rest (whole (Ok (xs, rest)) h)) t.place refl

  pub cut_short : (stuck : Tokens) → source_in (length seen + 1) (length seen + 1 + 1056) cursor ≡ Err (Refused stuck) → length stuck ≡ 0 → (t : VToken) → t ≡ get_or list at t
      → IsFirstNested tokens.list t.place
  cut_short stuck h none t is =
      nested_at tokens.list given.0 left at given.1.0 given.1.1 stop.0 few place_is t (there t is) (cut_ends (take (at + 1) tokens.list) stuck none (whole (Err (Refused stuck)) h)) t.place refl

  pub impossible : (stuck : Tokens) → source_in (length seen + 1) (length seen + 1 + 1056) cursor ≡ Err (Refused stuck) → 0 < length stuck
      → IsFlat tokens.list × (HasNoReading tokens.list × IsFirstFault tokens (place_of stuck tokens.end))
  impossible stuck h more = impossible_at tokens.list given.0 left at given.1.0 given.1.1 stop.0 few place_is tokens refl stuck (whole (Err (Refused stuck)) h) more

  pub never : source_in (length seen + 1) (length seen + 1 + 1056) cursor ≡ Err Sunk → ⊥
  never h = cut_never (take (at + 1) tokens.list) (whole (Err Sunk) h)
