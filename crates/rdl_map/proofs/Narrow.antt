-- Fields that pass the test have fewer than 2^32 bits.
use Rattle.std.proofs.Common.{◌≡◌, ◌<◌, Bool, true, false, ◌&&◌, List, [], ◌∷◌, refl, arith}
use Rattle.std.specs.List.{All, list_all}
use Rattle.std.proofs.lemmas.Bool.Decides.{nat_tests}
use Rattle.std.proofs.lemmas.List.Elements.{All-nil, All-cons}
use Rattle.rdl_fields.specs.declared.named.NamedField.{NamedField}
use Rattle.rdl_map.specs.Maps.{is_narrow}

both : (a b : Bool) → (a && b) ≡ true → (a ≡ true) × (b ≡ true)
both true b e = (refl, e)
both false b e = cc

pub all_narrow : (fs : List NamedField) → list_all is_narrow fs ≡ true → All (λ (f : NamedField). f.spot.width < 4294967296) fs
all_narrow [] e = All-nil (λ (f : NamedField). f.spot.width < 4294967296)
all_narrow (f ∷ fs) e =
    let p : (is_narrow f ≡ true) × (list_all is_narrow fs ≡ true) = both (is_narrow f) (list_all is_narrow fs) e in
    All-cons (λ (g : NamedField). g.spot.width < 4294967296) f fs (grind (arith, nat_tests, p.0)) (all_narrow fs p.1)
