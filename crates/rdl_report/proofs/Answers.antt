-- What is said of the bytes of a description is said of their one tree.
use Rattle.std.proofs.Common.{◌≡◌, ℕ, List, Result, Ok, Err, inl, inr, refl, subst}
use Rattle.bit_base.specs.declared.place.Place.{Place}
use Rattle.rdl_tree.specs.declared.fault.RdlCode.{RdlCode}
use Rattle.rdl_tree.specs.declared.fault.RdlFault.{RdlFault}
use Rattle.rdl_tree.specs.declared.fault.RdlFault.TheVariants.{NoMemory, At}
use Rattle.rdl_tree.specs.declared.token.RdlTokens.{RdlTokens}
use Rattle.rdl_tree.specs.declared.tree.RdlFile.{RdlFile}
use Rattle.rdl_tree.specs.Scan as scan
use Rattle.rdl_parse.specs.Refusal as reading
use Rattle.rdl_parse.proofs.OneAnswer as parsing
use Rattle.rdl_elab.specs.OneAnswer as elaboration
use Rattle.rdl_report.specs.Described.{IsMapText, IsNoTree, IsRefusedAt, IsTreeOf}
use Rattle.rdl_report.specs.OneAnswer.{HasOneAnswer}

module _ (scans : scan.OneAnswer) (elaborates : elaboration.HasOneAnswer) where
  same_tokens : (bytes : List ℕ) (s t : RdlTokens) → scan.IsTokensOf bytes s → scan.IsTokensOf bytes t → s ≡ t
  same_tokens bytes s t x y = let same : ◌≡◌ {A = Result RdlTokens RdlFault} (Ok s) (Ok t) = scans bytes (Ok s) (Ok t) x y (λ e. cc) (λ e. cc) in cc

  not_both : (bytes : List ℕ) (s : RdlTokens) (code : RdlCode) (place : Place) → scan.IsTokensOf bytes s → scan.Refuses bytes (At code place) → ⊥
  not_both bytes s code place x y = let same : ◌≡◌ {A = Result RdlTokens RdlFault} (Ok s) (Err (At code place)) = scans bytes (Ok s) (Err (At code place)) x y (λ e. cc) (λ e. cc) in cc

  same_tree : (bytes : List ℕ) (f g : RdlFile) → IsTreeOf bytes f → IsTreeOf bytes g → f ≡ g
  same_tree bytes f g x y =
      let tokens = same_tokens bytes y.tokens x.tokens y.scanned x.scanned in
      let other = subst (λ (t : RdlTokens). reading.Answers t (Ok g)) tokens (y.read, y.shallow) in
      let same : ◌≡◌ {A = Result RdlFile RdlFault} (Ok f) (Ok g) = parsing.law x.tokens (Ok f) (Ok g) (x.read, x.shallow) other (λ e. cc) (λ e. cc) in cc

  no_tree : (bytes : List ℕ) (f : RdlFile) (code : RdlCode) (place : Place) → IsTreeOf bytes f → IsNoTree bytes code place → ⊥
  no_tree bytes f code place x y =
      let tokens = same_tokens bytes y.tokens x.tokens y.scanned x.scanned in
      let other = subst (λ (t : RdlTokens). reading.Refuses t (At code place)) tokens y.refused in
      let same : ◌≡◌ {A = Result RdlFile RdlFault} (Ok f) (Err (At code place)) = parsing.law x.tokens (Ok f) (Err (At code place)) (x.read, x.shallow) other (λ e. cc) (λ e. cc) in cc

  same_fault : (bytes : List ℕ) (c d : RdlCode) (p q : Place) → IsNoTree bytes c p → IsNoTree bytes d q → ◌≡◌ {A = Result (Unit {0}) RdlFault} (Err (At c p)) (Err (At d q))
  same_fault bytes c d p q x y =
      let tokens = same_tokens bytes y.tokens x.tokens y.scanned x.scanned in
      let other = subst (λ (t : RdlTokens). reading.Refuses t (At d q)) tokens y.refused in
      let same : ◌≡◌ {A = Result RdlFile RdlFault} (Err (At c p)) (Err (At d q)) = parsing.law x.tokens (Err (At c p)) (Err (At d q)) x.refused other (λ e. cc) (λ e. cc) in cc

  same_scan : (bytes : List ℕ) (c d : RdlCode) (p q : Place) → scan.Refuses bytes (At c p) → scan.Refuses bytes (At d q) → ◌≡◌ {A = Result (Unit {0}) RdlFault} (Err (At c p)) (Err (At d q))
  same_scan bytes c d p q x y =
      let same : ◌≡◌ {A = Result RdlTokens RdlFault} (Err (At c p)) (Err (At d q)) = scans bytes (Err (At c p)) (Err (At d q)) x y (λ e. cc) (λ e. cc) in cc

  same_map : (bytes : List ℕ) (f g : RdlFile) (a b : Result (Unit {0}) RdlFault) → IsTreeOf bytes f → IsTreeOf bytes g → elaboration.IsAnswer f a → elaboration.IsAnswer g b → a ≡ b
  same_map bytes f g a b x y of_f of_g = elaborates f a b of_f (subst (λ (h : RdlFile). elaboration.IsAnswer h b) (same_tree bytes g f y x) of_g)

  map_refused : (bytes : List ℕ) (text : List ℕ) (code : RdlCode) (place : Place) → IsMapText bytes text → IsRefusedAt bytes code place → ⊥
  map_refused bytes text code place x (inl scanned) = not_both bytes x.tree.tokens code place x.tree.scanned scanned
  map_refused bytes text code place x (inr (inl read)) = no_tree bytes x.file code place x.tree read
  map_refused bytes text code place x (inr (inr none)) =
      let same : ◌≡◌ {A = Result (Unit {0}) RdlFault} (Ok tt) (Err (At code place)) = same_map bytes x.file none.file (Ok tt) (Err (At code place)) x.tree none.tree x.fine none.refused in cc

  both_refused : (bytes : List ℕ) (c d : RdlCode) (p q : Place) → IsRefusedAt bytes c p → IsRefusedAt bytes d q → ◌≡◌ {A = Result (Unit {0}) RdlFault} (Err (At c p)) (Err (At d q))
  both_refused bytes c d p q (inl x) (inl y) = same_scan bytes c d p q x y
  both_refused bytes c d p q (inl x) (inr (inl y)) = absurd (not_both bytes y.tokens c p y.scanned x)
  both_refused bytes c d p q (inl x) (inr (inr y)) = absurd (not_both bytes y.tree.tokens c p y.tree.scanned x)
  both_refused bytes c d p q (inr (inl x)) (inl y) = absurd (not_both bytes x.tokens d q x.scanned y)
  both_refused bytes c d p q (inr (inl x)) (inr (inl y)) = same_fault bytes c d p q x y
  both_refused bytes c d p q (inr (inl x)) (inr (inr y)) = absurd (no_tree bytes y.file c p y.tree x)
  both_refused bytes c d p q (inr (inr x)) (inl y) = absurd (not_both bytes x.tree.tokens d q x.tree.scanned y)
  both_refused bytes c d p q (inr (inr x)) (inr (inl y)) = absurd (no_tree bytes x.file d q x.tree y)
  both_refused bytes c d p q (inr (inr x)) (inr (inr y)) = same_map bytes x.file y.file (Err (At c p)) (Err (At d q)) x.tree y.tree x.refused y.refused

  pub one_answer : HasOneAnswer
  one_answer bytes (Ok x) (Ok y) g h = refl
  one_answer bytes (Ok x) (Err NoMemory) g h = absurd h
  one_answer bytes (Ok x) (Err (At code place)) g h = absurd (map_refused bytes g.0 code place g.1 h)
  one_answer bytes (Err NoMemory) b g h = absurd g
  one_answer bytes (Err (At code place)) (Ok x) g h = absurd (map_refused bytes h.0 code place h.1 g)
  one_answer bytes (Err (At code place)) (Err NoMemory) g h = absurd h
  one_answer bytes (Err (At c p)) (Err (At d q)) g h = both_refused bytes c d p q g h
