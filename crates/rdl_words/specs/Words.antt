-- The bus words of registers: a register of more bits than an access has several, its lowest bits first. Words beyond the
-- address space of 2^32 bytes aren't told; their registers are refused elsewhere.
use Rattle.std.specs.Prelude.{ℕ, zero, suc, ◌+◌, ◌*◌, ◌/◌, ◌==◌, nat_lt, if◌then◌else◌, List, [], ◌∷◌, ◌++◌}
use Rattle.bit_base.specs.declared.place.Place.{Place}
use Rattle.rdl_text.specs.Names.{place_if}
use Rattle.rdl_layout.specs.declared.register.Register.{Register}
use Rattle.rdl_words.specs.declared.word.Word.{Word}
use Rattle.rdl_words.specs.Spots.{Spot}

abbrev pub spot : Word → Spot
spot w = record { address = w.address; place = w.place }

-- the bytes of an access
abbrev pub address_in : Register → ℕ → ℕ
address_in r k = r.address + r.access / 8 * k

abbrev pub spot_in : Register → ℕ → List Spot
spot_in r k = if nat_lt (address_in r k) 4294967296 then record { address = address_in r k; place = r.place } ∷ [] else []

abbrev pub spots_below : Register → ℕ → List Spot
spots_below r zero = []
spots_below r (suc k) = spots_below r k ++ spot_in r k

abbrev pub words_in : Register → ℕ
words_in r = if r.access == 0 then 0 else r.width / r.access

abbrev pub spots_of : List Register → List Spot
spots_of [] = []
spots_of (r ∷ rs) = spots_below r (words_in r) ++ spots_of rs

-- a number for the order by address and then by place
abbrev pub key : Word → ℕ
key w = ((w.address * 4294967296 + w.place.file) * 4294967296 + w.place.line) * 4294967296 + w.place.column

-- in a list in that order: the places of words whose address the word before has too
abbrev pub candidates : List Spot → List Place
candidates [] = []
candidates (w ∷ []) = []
candidates (w ∷ x ∷ xs) = place_if (w.address == x.address) x.place ++ candidates (x ∷ xs)
