-- The form of a field's path (SystemRDL 2.0, clause 5, instance names and arrays).
use Rattle.std.specs.Prelude.{◌≡◌, ◌≢◌, ℕ, Bool, false, ◌==◌, ◌||◌, ◌&&◌, List, [], ◌∷◌, ◌++◌, Option, Some, None, nat_le, IsTrue, slice_get}
use Rattle.std.specs.List.{list_all}

abbrev pub is_letter : ℕ → Bool
is_letter c = (nat_le 65 c && nat_le c 90) || (nat_le 97 c && nat_le c 122) || c == 95

abbrev pub is_digit : ℕ → Bool
is_digit c = nat_le 48 c && nat_le c 57

-- a letter or `_`, then letters, digits and `_`
abbrev pub is_name : List ℕ → Bool
is_name [] = false
is_name (c ∷ cs) = is_letter c && list_all (λ d. is_letter d || is_digit d) cs

-- decimal digits with no leading zero
abbrev pub is_index : List ℕ → Bool
is_index [] = false
is_index (c ∷ []) = is_digit c
is_index (c ∷ d ∷ ds) = (nat_le 49 c && nat_le c 57) && list_all is_digit (d ∷ ds)

-- one instance: its name, and for an element of an array its index
pub record Step : Type 0 where
  pub name : List ℕ
  pub element : Option (List ℕ)

abbrev pub index_text : Option (List ℕ) → List ℕ
index_text None = []
index_text (Some ds) = 91 ∷ (ds ++ 93 ∷ [])

abbrev pub step_text : Step → List ℕ
step_text s = s.name ++ index_text s.element

-- the steps joined by `.`
abbrev pub path_text : List Step → List ℕ
path_text [] = []
path_text (s ∷ []) = step_text s
path_text (s ∷ t ∷ ss) = step_text s ++ 46 ∷ path_text (t ∷ ss)

-- the text is that of at least one step, each a name with or without the index of an element
pub record IsFieldPath (text : List ℕ) : Type 0 where
  pub steps : List Step
  pub some : steps ≢ []
  pub named : (i : ℕ) (s : Step) → slice_get steps i ≡ Some s → IsTrue (is_name s.name)
  pub indexed : (i : ℕ) (s : Step) (ds : List ℕ) → slice_get steps i ≡ Some s → s.element ≡ Some ds → IsTrue (is_index ds)
  pub joined : text ≡ path_text steps
