-- The table of the paths that were seen.
use Rattle.std.proofs.Common.{◌≡◌, ◌⊎◌, inl, inr, ℕ, ◌+◌, ◌≤◌, ◌<◌, Bool, true, false, List, length, Option, Some, None, refl, sym, ◌∙◌, ap, subst, arith}
use Rattle.std.specs.Prelude.{slice_get, bytes_eq, if◌then◌else◌}
use Rattle.std.proofs.lemmas.Bool.{cases_lt}
use Rattle.std.proofs.lemmas.Option.{slice_get_within}
use Rattle.std.proofs.lemmas.Slice.Eq.{bytes_eq-Decides}
use Rattle.flat_design.specs.declared.net.Net.{Net}
use Rattle.flat_raw.specs.Nets.{is_hidden}
use Rattle.flat_raw.specs.Paths.{HaveOwnPaths}
use Rattle.flat_raw.specs.Table.{found, HasPath, AreSeen}
use Rattle.flat_raw.specs.declared.path.Paths.{Paths}
use Rattle.flat_raw.proofs.Rows.{same_element}

later : (nets : List Net) (seen j : ℕ) (q : List ℕ) → HasPath nets seen j q → HasPath nets (seen + 1) j q
later nets seen j q h = record { net = h.net; before = let b = h.before in omega arith; is = h.is; shown = h.shown; path_is = h.path_is }

pub hidden_seen : (paths : Paths) (nets : List Net) (seen : ℕ) (n : Net) → slice_get nets seen ≡ Some n → is_hidden n.kind ≡ true → AreSeen paths nets seen → AreSeen paths nets (seen + 1)
hidden_seen paths nets seen n at hidden h = record {
  only = λ q j f. later nets seen j q (h.only q j f);
  all = λ j m less is shown. elim (cases_lt j seen) [
    | inl before ↦ h.all j m before is shown
    | inr more ↦ let e : seen ≡ j = omega arith in absurd (both (is_hidden n.kind) hidden (ap (λ x. is_hidden x.kind) (same_element nets seen n m at (ap (slice_get nets) e ∙ is)) ∙ shown))
  ];
} where
  both : (b : Bool) → b ≡ true → b ≡ false → ⊥
  both b h k = cc

pub seen_twice : (paths : Paths) (nets : List Net) (seen j : ℕ) (n : Net) → slice_get nets seen ≡ Some n → is_hidden n.kind ≡ false → AreSeen paths nets seen → found paths n.path ≡ Some j → HaveOwnPaths nets → ⊥
seen_twice paths nets seen j n at shown h f own =
    let p : HasPath nets seen j n.path = h.only n.path j f in
    let e : j ≡ seen = own j seen p.net n p.is at p.shown shown p.path_is in
    let b : j < seen = p.before in
    omega arith

pub set_seen : (old new : Paths) (nets : List Net) (seen : ℕ) (n : Net) → slice_get nets seen ≡ Some n → is_hidden n.kind ≡ false → found old n.path ≡ None
    → ((q : List ℕ) → found new q ≡ (if bytes_eq n.path q then Some seen else found old q)) → AreSeen old nets seen → AreSeen new nets (seen + 1)
set_seen old new nets seen n at shown none set h = record { only = only; all = all } where
  only_by : (q : List ℕ) (j : ℕ) (b : Bool) → bytes_eq n.path q ≡ b → (if b then Some seen else found old q) ≡ Some j → HasPath nets (seen + 1) j q
  only_by q j true is f =
      let e : seen ≡ j = cc in
      record { net = n; before = omega arith; is = ap (slice_get nets) (sym e) ∙ at; shown = shown; path_is = (bytes_eq-Decides n.path q).0 is }
  only_by q j false is f = later nets seen j q (h.only q j f)

  only : (q : List ℕ) (j : ℕ) → found new q ≡ Some j → HasPath nets (seen + 1) j q
  only q j f = only_by q j (bytes_eq n.path q) refl (sym (set q) ∙ f)

  old_by : (j : ℕ) (m : Net) (b : Bool) → bytes_eq n.path m.path ≡ b → found old m.path ≡ Some j → (if b then Some seen else found old m.path) ≡ Some j
  old_by j m true is f = let e : found old n.path ≡ found old m.path = ap (found old) ((bytes_eq-Decides n.path m.path).0 is) in absurd (differ (sym none ∙ e ∙ f)) where
    differ : None ≡ Some j → ⊥
    differ e = cc
  old_by j m false is f = f

  new_by : (b : Bool) → b ≡ true → (if b then Some seen else found old n.path) ≡ Some seen
  new_by true h = refl
  new_by false h = cc

  all : (j : ℕ) (m : Net) → j < seen + 1 → slice_get nets j ≡ Some m → is_hidden m.kind ≡ false → found new m.path ≡ Some j
  all j m less is hidden = elim (cases_lt j seen) [
    | inl before ↦ set m.path ∙ old_by j m (bytes_eq n.path m.path) refl (h.all j m before is hidden)
    | inr more ↦
        let e : seen ≡ j = omega arith in
        let same : n ≡ m = same_element nets seen n m at (ap (slice_get nets) e ∙ is) in
        ap (λ x. found new x.path) (sym same) ∙ set n.path ∙ new_by (bytes_eq n.path n.path) ((bytes_eq-Decides n.path n.path).1 refl) ∙ ap Some e
  ]

pub end_seen : (paths : Paths) (nets : List Net) (seen : ℕ) → length nets ≤ seen → AreSeen paths nets seen → HaveOwnPaths nets
end_seen paths nets seen end h j k m n at is shown visible same =
    let inside : j < length nets = slice_get_within nets j m at in
    let within : k < length nets = slice_get_within nets k n is in
    let e : Some j ≡ Some k = sym (h.all j m (omega arith) at shown) ∙ ap (found paths) same ∙ h.all k n (omega arith) is visible in
    cc
