-- The options of words, pair by pair.
use Rattle.std.proofs.Common.{◌≡◌, ℕ, ◌-◌, ◌≤◌, List, [], ◌∷◌, length, take, drop, get_or, Option, Some, Result, IfOk, sym, ◌∙◌, ap, subst, arith}
use Rattle.std.specs.Option.{option_and_then}
use Rattle.std.proofs.lemmas.List.{take_rest}
use Rattle.prove_top.specs.declared.words.Options.{Options}
use Rattle.prove_top.specs.Words.{options_of, with_option}

pub options-step : {E : Type 0} (words : List (List ℕ)) (name word : List ℕ) (found more : Options) (r : Result (Option Options) E) → 2 ≤ length words
    → name ≡ get_or words 0 name → word ≡ get_or words 1 word → with_option found name word ≡ Some more
    → IfOk r (λ o. o ≡ options_of (take (length words - 2) (drop 2 words)) more) → IfOk r (λ o. o ≡ options_of words found)
options-step [] name word found more r long one two is h = absurd (omega arith)
options-step (a ∷ []) name word found more r long one two is h = absurd (omega arith)
options-step (a ∷ b ∷ rest) name word found more r long one two is h =
    let here : with_option found a b ≡ Some more = ap (λ n. with_option found n b) (sym one) ∙ ap (λ w. with_option found name w) (sym two) ∙ is in
    let all : options_of (take (length (a ∷ b ∷ rest) - 2) (drop 2 (a ∷ b ∷ rest))) more ≡ options_of (a ∷ b ∷ rest) found =
    ap (λ ws. options_of ws more) (take_rest (a ∷ b ∷ rest) 2) ∙ sym (ap (option_and_then (options_of rest)) here) in
    let P : Option Options → Type 0 = λ expected. IfOk r (λ o. o ≡ expected) in
    subst P all h
