-- No field has two names, and no two names do the same.
use Rattle.std.proofs.Common.{◌≡◌, ℕ, zero, suc, List, [], ◌∷◌, map, length, ◌<◌, ◌↔◌, slice_get, Bool, true, false, cond, Some, None, Option, refl, sym, ◌∙◌, ap, subst}
use Rattle.std.proofs.lemmas.Option.{same_Some, slice_get_within}
use denote.Enum.Declared.{tag_of}
use Rattle.field_policies.specs.contracts.policy.Policy.{the_type}
use Rattle.field_policies.specs.declared.policy.Policy.{Policy}
use Rattle.field_policies.specs.declared.policy.Policy.TheVariants.{RO, RC, RS, RW, WRC, WRS, WC, WCRS, WS, WSRC, W1C, W1CRS, W1S, W1SRC, W1T, W0C, W0CRS, W0S, W0SRC, W0T, W1, WO, WOC, WOS, WO1}
use Rattle.field_policies.specs.declared.policy.PolicyRow.{PolicyRow}
use Rattle.field_policies.specs.declared.policy.ReadEffect.{ReadEffect}
use Rattle.field_policies.specs.declared.policy.ReadEffect.TheVariants as read
use Rattle.field_policies.specs.declared.policy.WriteEffect.{WriteEffect}
use Rattle.field_policies.specs.declared.policy.WriteEffect.TheVariants as write
use Rattle.field_policies.specs.declared.field.Field.{Field}
use Rattle.field_policies.specs.Policies.{HasRow, HasPolicy, NamesDiffer, all_rows, policies, row_of, write_bit, read_bit}

-- the rows stand in the order of the names
pub row_at : (p : Policy) → slice_get all_rows (tag_of the_type p) ≡ Some (row_of p)
row_at RO = refl
row_at RC = refl
row_at RS = refl
row_at RW = refl
row_at WRC = refl
row_at WRS = refl
row_at WC = refl
row_at WCRS = refl
row_at WS = refl
row_at WSRC = refl
row_at W1C = refl
row_at W1CRS = refl
row_at W1S = refl
row_at W1SRC = refl
row_at W1T = refl
row_at W0C = refl
row_at W0CRS = refl
row_at W0S = refl
row_at W0SRC = refl
row_at W0T = refl
row_at W1 = refl
row_at WO = refl
row_at WOC = refl
row_at WOS = refl
row_at WO1 = refl

own_name : (p : Policy) → p ≡ (row_of p).policy
own_name RO = refl
own_name RC = refl
own_name RS = refl
own_name RW = refl
own_name WRC = refl
own_name WRS = refl
own_name WC = refl
own_name WCRS = refl
own_name WS = refl
own_name WSRC = refl
own_name W1C = refl
own_name W1CRS = refl
own_name W1S = refl
own_name W1SRC = refl
own_name W1T = refl
own_name W0C = refl
own_name W0CRS = refl
own_name W0S = refl
own_name W0SRC = refl
own_name W0T = refl
own_name W1 = refl
own_name WO = refl
own_name WOC = refl
own_name WOS = refl
own_name WO1 = refl

row_among : (ps : List Policy) (k : ℕ) (r : PolicyRow) → slice_get (map row_of ps) k ≡ Some r → row_of r.policy ≡ r
row_among [] k r h = cc
row_among (p ∷ ps) zero r h = ap (λ x. row_of x.policy) (sym (same_Some _ _ h)) ∙ ap row_of (sym (own_name p)) ∙ same_Some _ _ h
row_among (p ∷ ps) (suc k) r h = row_among ps k r h

-- each row of the table is that of its name
pub row_is : (k : ℕ) (r : PolicyRow) → slice_get all_rows k ≡ Some r → row_of r.policy ≡ r
row_is k r h = row_among policies k r h

-- what a row is compared by
record Key : Type 0 where
  readable : Bool
  writable : Bool
  once : Bool
  write : WriteEffect
  read : ReadEffect

key : Bool → Bool → Bool → WriteEffect → ReadEffect → Key
key r w o we re = record { readable = r; writable = w; once = cond w o false; write = cond w we write.AsIs; read = cond r re read.Keep }

row_key : PolicyRow → Key
unfolding key
row_key r = key r.readable r.writable r.once r.write r.read

-- the name of a readable field by its effects, and so on
plain_name : WriteEffect → ReadEffect → Option Policy
plain_name write.AsIs read.Keep = Some RW
plain_name write.AsIs read.Clear = Some WRC
plain_name write.AsIs read.Set = Some WRS
plain_name write.Clear read.Keep = Some WC
plain_name write.Clear read.Set = Some WCRS
plain_name write.Set read.Keep = Some WS
plain_name write.Set read.Clear = Some WSRC
plain_name write.OneClear read.Keep = Some W1C
plain_name write.OneClear read.Set = Some W1CRS
plain_name write.OneSet read.Keep = Some W1S
plain_name write.OneSet read.Clear = Some W1SRC
plain_name write.OneToggle read.Keep = Some W1T
plain_name write.ZeroClear read.Keep = Some W0C
plain_name write.ZeroClear read.Set = Some W0CRS
plain_name write.ZeroSet read.Keep = Some W0S
plain_name write.ZeroSet read.Clear = Some W0SRC
plain_name write.ZeroToggle read.Keep = Some W0T
plain_name _ _ = None

read_name : ReadEffect → Option Policy
read_name read.Keep = Some RO
read_name read.Clear = Some RC
read_name read.Set = Some RS

write_name : WriteEffect → Option Policy
write_name write.AsIs = Some WO
write_name write.Clear = Some WOC
write_name write.Set = Some WOS
write_name _ = None

name_of : Key → Option Policy
name_of k = cond k.writable (cond k.once (cond k.readable (Some W1) (Some WO1)) (cond k.readable (plain_name k.write k.read) (write_name k.write))) (read_name k.read)

name_of_row : (p : Policy) → name_of (row_key (row_of p)) ≡ Some p
unfolding name_of row_key key plain_name read_name write_name
name_of_row RO = refl
name_of_row RC = refl
name_of_row RS = refl
name_of_row RW = refl
name_of_row WRC = refl
name_of_row WRS = refl
name_of_row WC = refl
name_of_row WCRS = refl
name_of_row WS = refl
name_of_row WSRC = refl
name_of_row W1C = refl
name_of_row W1CRS = refl
name_of_row W1S = refl
name_of_row W1SRC = refl
name_of_row W1T = refl
name_of_row W0C = refl
name_of_row W0CRS = refl
name_of_row W0S = refl
name_of_row W0SRC = refl
name_of_row W0T = refl
name_of_row W1 = refl
name_of_row WO = refl
name_of_row WOC = refl
name_of_row WOS = refl
name_of_row WO1 = refl

-- what is chosen under equal tests, where the choices are equal under a true one
chosen : {A : Type 0} (b : Bool) (x y d : A) → (b ≡ true → x ≡ y) → cond b x d ≡ cond b y d
chosen true x y d h = h refl
chosen false x y d h = refl

both_chosen : {A : Type 0} (b c : Bool) (x y d : A) → b ≡ c → (b ≡ true → x ≡ y) → cond b x d ≡ cond c y d
both_chosen b c x y d e h = chosen b x y d h ∙ ap (λ t. cond t y d) e

same_key : (k l : Key) → k.readable ≡ l.readable → k.writable ≡ l.writable → k.once ≡ l.once → k.write ≡ l.write → k.read ≡ l.read → k ≡ l
same_key k l a b c d e = ap (λ x. of_parts x k.writable k.once k.write k.read) a
    ∙ ap (λ x. of_parts l.readable x k.once k.write k.read) b ∙ ap (λ x. of_parts l.readable l.writable x k.write k.read) c
    ∙ ap (λ x. of_parts l.readable l.writable l.once x k.read) d ∙ ap (λ x. of_parts l.readable l.writable l.once l.write x) e
  where
    of_parts : Bool → Bool → Bool → WriteEffect → ReadEffect → Key
    of_parts r w o we re = record { readable = r; writable = w; once = o; write = we; read = re }

-- equal keys, as far as the two are compared
keys_meet : (r w o : Bool) (we : WriteEffect) (re : ReadEffect) (r' w' o' : Bool) (we' : WriteEffect) (re' : ReadEffect) → r ≡ r' → w ≡ w'
    → (w ≡ true → o ≡ o') → (w ≡ true → we ≡ we') → (r ≡ true → re ≡ re') → key r w o we re ≡ key r' w' o' we' re'
unfolding key
keys_meet r w o we re r' w' o' we' re' a b c d e = same_key _ _ a b (both_chosen w w' o o' false b c) (both_chosen w w' we we' write.AsIs b d) (both_chosen r r' re re' read.Keep a e)

one_name : (p q : Policy) → row_key (row_of p) ≡ row_key (row_of q) → p ≡ q
one_name p q e = same_Some _ _ (sym (name_of_row p) ∙ ap name_of e ∙ name_of_row q)

field_key : (f : Field) (p : Policy) → HasPolicy f p → key f.readable f.writable f.once f.write f.read ≡ row_key (row_of p)
unfolding row_key
field_key f p h = keys_meet _ _ _ _ _ _ _ _ _ _ h.readable h.writable h.once h.write h.read

pub one_policy : (f : Field) (p q : Policy) → HasPolicy f p → HasPolicy f q → p ≡ q
one_policy f p q h k = one_name p q (sym (field_key f p h) ∙ field_key f q k)

-- an effect by what it does to a bit
write_effect : Bool → Bool → Bool → Bool → WriteEffect
write_effect false true false true = write.AsIs
write_effect false true true true = write.OneSet
write_effect false false true false = write.OneClear
write_effect false true true false = write.OneToggle
write_effect true false true true = write.ZeroSet
write_effect false false false true = write.ZeroClear
write_effect true false false true = write.ZeroToggle
write_effect false false false false = write.Clear
write_effect _ _ _ _ = write.Set

write_by_bits : (e : WriteEffect) → write_effect (write_bit e false false) (write_bit e false true) (write_bit e true false) (write_bit e true true) ≡ e
unfolding write_effect
write_by_bits write.AsIs = refl
write_by_bits write.OneSet = refl
write_by_bits write.OneClear = refl
write_by_bits write.OneToggle = refl
write_by_bits write.ZeroSet = refl
write_by_bits write.ZeroClear = refl
write_by_bits write.ZeroToggle = refl
write_by_bits write.Clear = refl
write_by_bits write.Set = refl

write_agrees : (d e : WriteEffect) → ((value written : Bool) → write_bit d value written ≡ write_bit e value written) → d ≡ e
write_agrees d e h = sym (write_by_bits d)
    ∙ ap (λ b. write_effect b (write_bit d false true) (write_bit d true false) (write_bit d true true)) (h false false)
    ∙ ap (λ b. write_effect (write_bit e false false) b (write_bit d true false) (write_bit d true true)) (h false true)
    ∙ ap (λ b. write_effect (write_bit e false false) (write_bit e false true) b (write_bit d true true)) (h true false)
    ∙ ap (λ b. write_effect (write_bit e false false) (write_bit e false true) (write_bit e true false) b) (h true true)
    ∙ write_by_bits e

read_effect : Bool → Bool → ReadEffect
read_effect false true = read.Keep
read_effect false false = read.Clear
read_effect true _ = read.Set

read_by_bits : (e : ReadEffect) → read_effect (read_bit e false) (read_bit e true) ≡ e
unfolding read_effect
read_by_bits read.Keep = refl
read_by_bits read.Clear = refl
read_by_bits read.Set = refl

read_agrees : (d e : ReadEffect) → ((value : Bool) → read_bit d value ≡ read_bit e value) → d ≡ e
read_agrees d e h = sym (read_by_bits d) ∙ ap (λ b. read_effect b (read_bit d true)) (h false) ∙ ap (λ b. read_effect (read_bit e false) b) (h true) ∙ read_by_bits e

-- under a true test both sides write
under : (b c : Bool) (d e : WriteEffect) → b ≡ c → b ≡ true → ((value written : Bool) → cond b (write_bit d value written) value ≡ cond c (write_bit e value written) value)
    → (value written : Bool) → write_bit d value written ≡ write_bit e value written
under b c d e p q h value written = subst (λ t. cond t (write_bit d value written) value ≡ cond t (write_bit e value written) value) q
    (subst (λ t. cond b (write_bit d value written) value ≡ cond t (write_bit e value written) value) (sym p) (h value written))

pub names_differ : NamesDiffer
unfolding row_key
names_differ p q h = one_name p q (keys_meet _ _ _ _ _ _ _ _ _ _ h.readable h.writable (λ _. h.once)
    (λ w. write_agrees _ _ (under _ _ _ _ h.writable w h.write)) (λ _. read_agrees _ _ h.read))

-- the field has the row's name, and no other
pub one_found : (f : Field) (k : ℕ) (r : PolicyRow) → slice_get all_rows k ≡ Some r → HasRow f r → (p : Policy) → (Some r.policy ≡ Some p) ↔ HasPolicy f p
one_found f k r at h p = let own : HasPolicy f r.policy = subst (HasRow f) (sym (row_is k r at)) h in
    (λ e. subst (HasPolicy f) (same_Some _ _ e) own, λ has. ap Some (one_policy f r.policy p own has))

-- a field that has no row of the table has no name
pub none_found : (f : Field) → ((k : ℕ) → k < length all_rows → (r : PolicyRow) → slice_get all_rows k ≡ Some r → HasRow f r → ⊥) → (p : Policy) → HasPolicy f p → ⊥
none_found f none p h = none (tag_of the_type p) (slice_get_within all_rows _ _ (row_at p)) (row_of p) (row_at p) h
