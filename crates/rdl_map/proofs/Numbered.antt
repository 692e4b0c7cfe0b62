-- One field more: what is known of the fields so far, for whatever fields follow.
use Rattle.std.proofs.Common.{◌≡◌, ℕ, ◌+◌, List, [], ◌∷◌, ◌++◌, drop, sym, subst, append_assoc, append-nil}
use Rattle.field_policies.specs.declared.field.Field.{Field}
use Rattle.rdl_fields.specs.declared.named.NamedField.{NamedField}
use Rattle.rdl_map.specs.Signals.{count_at}
use Rattle.rdl_map.specs.Fields.{IsFieldOf, AreFrom}

-- fields that follow from here on are all of them behind these
abbrev pub Completes : List ℕ → List NamedField → ℕ → ℕ → List Field → Type 0
Completes words all number base out = (fs : List Field) → AreFrom words all number base (drop number all) fs → AreFrom words all 0 0 all (out ++ fs)

pub one_more : (words : List ℕ) (all : List NamedField) (number base next : ℕ) (out : List Field) (g : NamedField) (f : Field)
    → drop number all ≡ g ∷ drop (number + 1) all → next ≡ base + count_at g → IsFieldOf words all number base g f
    → Completes words all number base out → Completes words all (number + 1) next (out ++ f ∷ [])
one_more words all number base next out g f here counted is so_far fs more =
    let rest : AreFrom words all (number + 1) (base + count_at g) (drop (number + 1) all) fs = subst (λ (b : ℕ). AreFrom words all (number + 1) b (drop (number + 1) all) fs) counted more in
    let both : AreFrom words all number base (drop number all) (f ∷ fs) = subst (λ (gs : List NamedField). AreFrom words all number base gs (f ∷ fs)) (sym here) (is, rest) in
    subst (λ (xs : List Field). AreFrom words all 0 0 all xs) (sym (append_assoc out (f ∷ []) fs)) (so_far (f ∷ fs) both)

pub all_told : (words : List ℕ) (all : List NamedField) (number base : ℕ) (out : List Field) → drop number all ≡ [] → Completes words all number base out → AreFrom words all 0 0 all out
all_told words all number base out none so_far =
    subst (λ (xs : List Field). AreFrom words all 0 0 all xs) (append-nil out)
    (so_far [] (subst (λ (gs : List NamedField). AreFrom words all number base gs []) (sym none) tt))
