-- What the bytes of a description determine.
use Rattle.std.proofs.Common.{◌≡◌, ℕ, zero, suc, ◌/◌, ◌%◌, ◌^◌, ◌==◌, ◌&&◌, Bool, true, false, not, List, [], ◌∷◌, ◌++◌, slice_index_or, codes, Result, Ok, Err, inl, inr, refl, ◌∙◌, ap}
use Rattle.std.specs.List.{list_all}
use Rattle.field_policies.specs.declared.field.Field.{Field}
use Rattle.map_report.specs.Digits.{hex_of}
use Rattle.map_report.specs.Laws.{BeginWithAddresses}
use Rattle.map_report.specs.Reports.{ReportsFields}
use Rattle.bit_base.specs.declared.place.Place.{Place}
use Rattle.rdl_tree.specs.declared.fault.RdlCode.{RdlCode}
use Rattle.rdl_tree.specs.declared.fault.RdlFault.{RdlFault}
use Rattle.rdl_tree.specs.declared.fault.RdlFault.TheVariants.{At}
use Rattle.rdl_report.specs.Described.{IsMapText, IsRefusedAt}
use Rattle.rdl_report.specs.OneAnswer.{HasOneAnswer}

other-first : (a b : Bool) → (not a && b) ≡ true → a ≡ false
other-first false b all = refl
other-first true b all = cc

other-rest : (a b : Bool) → (not a && b) ≡ true → b ≡ true
other-rest false b all = all
other-rest true b all = cc

module _ (reads : HasOneAnswer) (bytes : List ℕ) where
  pub map_or_refused : (text : List ℕ) (code : RdlCode) (place : Place) → IsMapText bytes text → IsRefusedAt bytes code place → ⊥
  map_or_refused text code place map refused = let same : ◌≡◌ {A = Result (Unit {0}) RdlFault} (Ok tt) (Err (At code place)) = reads bytes (Ok tt) (Err (At code place)) (text, map) refused in cc

  pub one_code : (c d : RdlCode) (p q : Place) → IsRefusedAt bytes c p → IsRefusedAt bytes d q → c ≡ d
  one_code c d p q x y = let same : ◌≡◌ {A = Result (Unit {0}) RdlFault} (Err (At c p)) (Err (At d q)) = reads bytes (Err (At c p)) (Err (At d q)) x y in cc

  pub one_place : (c d : RdlCode) (p q : Place) → IsRefusedAt bytes c p → IsRefusedAt bytes d q → p ≡ q
  one_place c d p q x y = let same : ◌≡◌ {A = Result (Unit {0}) RdlFault} (Err (At c p)) (Err (At d q)) = reads bytes (Err (At c p)) (Err (At d q)) x y in cc

-- the lines of a register map begin with digits
no-digit : (digits : List ℕ) (d : ℕ) → list_all (λ b. not (b == 115)) digits ≡ true → (slice_index_or digits d 0 == 115) ≡ false
no-digit [] d all = refl
no-digit (b ∷ digits) zero all = other-first (b == 115) (list_all (λ c. not (c == 115)) digits) all
no-digit (b ∷ digits) (suc d) all = no-digit digits d (other-rest (b == 115) (list_all (λ c. not (c == 115)) digits) all)

begins-other : (text : List ℕ) (address : ℕ) (rest : List ℕ) → text ≡ hex_of 8 address ++ rest → (slice_index_or text 4 0 == 115) ≡ false
begins-other text address rest is = ap (λ t. slice_index_or t 4 0 == 115) is ∙ no-digit (codes "0123456789abcdef") (address / 2 ^ 12 % 16) refl

pub map-plain : BeginWithAddresses → (words : List ℕ) (fields : List Field) (text : List ℕ) → ReportsFields words fields text → (slice_index_or text 4 0 == 115) ≡ false
map-plain begins words fields text h =
    elim (begins words fields text h) [
      | inl none ↦ ap (λ t. slice_index_or t 4 0 == 115) none
      | inr some ↦ begins-other text some.0 some.1.0 some.1.1
    ]
