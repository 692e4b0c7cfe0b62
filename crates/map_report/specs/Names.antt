-- How the access policies are written (IEEE 1800.2, register layer, field access policies).
use Rattle.std.specs.Prelude.{◌≡◌, ◌↔◌, ℕ, List, Option, Some, None, codes}
use Rattle.field_policies.specs.declared.field.Field.{Field}
use Rattle.field_policies.specs.declared.policy.Policy.{Policy}
use Rattle.field_policies.specs.declared.policy.Policy.TheVariants.{RO, RC, RS, RW, WRC, WRS, WC, WCRS, WS, WSRC, W1C, W1CRS, W1S, W1SRC, W1T, W0C, W0CRS, W0S, W0SRC, W0T, W1, WO, WOC, WOS, WO1}
use Rattle.field_policies.specs.Policies.{HasPolicy}

abbrev pub policy_text : Policy → List ℕ
policy_text RO = codes "RO"
policy_text RC = codes "RC"
policy_text RS = codes "RS"
policy_text RW = codes "RW"
policy_text WRC = codes "WRC"
policy_text WRS = codes "WRS"
policy_text WC = codes "WC"
policy_text WCRS = codes "WCRS"
policy_text WS = codes "WS"
policy_text WSRC = codes "WSRC"
policy_text W1C = codes "W1C"
policy_text W1CRS = codes "W1CRS"
policy_text W1S = codes "W1S"
policy_text W1SRC = codes "W1SRC"
policy_text W1T = codes "W1T"
policy_text W0C = codes "W0C"
policy_text W0CRS = codes "W0CRS"
policy_text W0S = codes "W0S"
policy_text W0SRC = codes "W0SRC"
policy_text W0T = codes "W0T"
policy_text W1 = codes "W1"
policy_text WO = codes "WO"
policy_text WOC = codes "WOC"
policy_text WOS = codes "WOS"
policy_text WO1 = codes "WO1"

-- a field whose effects have no name has a dash
unfoldable pub name_text : Option Policy → List ℕ
name_text (Some p) = policy_text p
name_text None = codes "-"

-- the policy that a field has, or none where it has none
abbrev pub IsPolicyOf : Field → Option Policy → Type 0
IsPolicyOf f policy = (p : Policy) → (policy ≡ Some p) ↔ HasPolicy f p
