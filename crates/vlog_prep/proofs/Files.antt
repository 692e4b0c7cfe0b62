-- What the loops over the files keep, and what their ends show.
use Rattle.std.proofs.Common.{◌≡◌, ℕ, ◌+◌, ◌-◌, ◌<◌, ◌≤◌, inl, inr, List, [], ◌∷◌, ◌++◌, map, length, take, drop, get_or, refl, sym, ◌∙◌, ap, arith}
use Rattle.std.proofs.lemmas.List.{take-append-drop, length-take-le, take_more, drop_more, take_all, get_or-take, get_or-map, nil_from_length}
use Rattle.std.proofs.Math.ListN.{get_or-eq_default}
use Rattle.std.proofs.lemmas.Bool.{cases_lt}
use Rattle.bit_base.specs.declared.place.Place.{Place}
use Rattle.vlog_tree.specs.declared.fault.VlogCode.TheVariants.{VlogByte, VlogSize}
use Rattle.vlog_tree.specs.declared.fault.VlogFault.{VlogFault}
use Rattle.vlog_tree.specs.declared.fault.VlogFault.TheVariants.{NoMemory, At}
use Rattle.vlog_prep.specs.declared.piece.Piece.{Piece}
use Rattle.vlog_prep.specs.Places.{moved, place_after}
use Rattle.vlog_prep.specs.Pieces.{AreRead, file}
use Rattle.vlog_prep.specs.Prepared.{most_bytes, Files, AreSmall, end_of}
use Rattle.vlog_prep.specs.Scanned.{Appends, IsBadIn}
use Rattle.vlog_prep.specs.Files.{IsLong, IsBadFault}
use Rattle.vlog_prep.proofs.PlaceSteps.{moved-after}

-- No file up to this number is too long.
abbrev pub AreSmallTo : ℕ → Files → Type 0
AreSmallTo n files = (k : ℕ) → k < n → length (get_or files k []) ≤ most_bytes

pub small-start : (files : Files) → AreSmallTo 0 files
small-start files k h = absurd (omega (arith, h))

pub small-more : (files : Files) (n : ℕ) → AreSmallTo n files → length (get_or files n []) ≤ most_bytes → AreSmallTo (n + 1) files
small-more files n small here k h =
    elim (cases_lt k n) [
      | inl e ↦ small k e
      | inr e ↦ (let same : k ≡ n = omega arith in rw same here)
    ]

pub small-end : (files : Files) (n : ℕ) → length files ≤ n → AreSmallTo n files → AreSmall files
small-end files n h small k =
    elim (cases_lt k n) [
      | inl e ↦ small k e
      | inr e ↦ (let past : length files ≤ k = omega arith in rw (get_or-eq_default files [] past) (omega arith))
    ]

small-front : (files : Files) (n : ℕ) → n ≤ length files → AreSmallTo n files → AreSmall (take n files)
small-front files n within small k =
    elim (cases_lt k n) [
      | inl e ↦ rw (get_or-take n files k [] e) (small k e)
      | inr e ↦ (let past : length (take n files) ≤ k = omega (arith, length-take-le n files within) in rw (get_or-eq_default (take n files) [] past) (omega arith))
    ]

-- The files before one of them, it, and those behind it.
split-at : (files : Files) (n : ℕ) → n < length files → files ≡ take n files ++ get_or files n [] ∷ drop (n + 1) files
split-at files n h = sym (take-append-drop n files) ∙ ap (λ w. take n files ++ w) (drop_more files n [] h)

pub long-at : (files : Files) (n : ℕ) (place : Place) → n < length files → AreSmallTo n files → most_bytes < length (get_or files n []) → place ≡ record { file = n; line = 0; column = 0 }
    → IsLong files (At VlogSize place [] [])
long-at files n place h small long here =
    let within : n ≤ length files = omega arith in
    let number : length (take n files) ≡ n = length-take-le n files within in (
      record {
        before = take n files;
        bytes = get_or files n [];
        more = drop (n + 1) files;
        split = split-at files n h;
        small = small-front files n within small;
        long = long;
        here = rw number here;
      },
      refl,
      refl,
    )

pub read-more : (files : Files) (n : ℕ) (old new : List Piece) → n < length files → AreRead (take n files) old → Appends n (get_or files n []) old new → AreRead (take (n + 1) files) new
read-more files n old new h read appends =
    let number : length (take n files) ≡ n = length-take-le n files (omega arith) in
    rw (take_more files n [] h, appends.same)
    (file (take n files) old (get_or files n []) appends.more read (rw number appends.read))

pub read-end : (files : Files) (n : ℕ) (pieces : List Piece) → length files ≤ n → AreRead (take n files) pieces → AreRead files pieces
read-end files n pieces h read = rw (take_all n files h) at read

pub bad-at : (files : Files) (n : ℕ) (pieces : List Piece) (fault : VlogFault) → AreSmall files → n < length files → AreRead (take n files) pieces → IsBadIn n (get_or files n []) fault → IsBadFault files fault
bad-at files n pieces NoMemory small h read bad = tt
bad-at files n pieces (At VlogByte place names path) small h read bad =
    let number : length (take n files) ≡ n = length-take-le n files (omega arith) in (
      record {
        small = small;
        before = take n files;
        bytes = get_or files n [];
        more = drop (n + 1) files;
        split = split-at files n h;
        pieces = pieces;
        read = read;
        found = bad.0.found;
        front = bad.0.front;
        rest = bad.0.rest;
        read_here = rw number bad.0.read;
        bad = bad.0.bad;
        here = rw number bad.0.here;
      },
      bad.1,
      bad.2,
    )
bad-at files n pieces (At _ place names path) small h read bad = absurd bad

-- The bytes of a file among the files.
pub item-at : {X : Type 0} (f : X → List ℕ) (xs : List X) (i : ℕ) (x : X) → i < length xs → x ≡ get_or xs i x → get_or (map f xs) i [] ≡ f x
item-at f xs i x h is = get_or-map f xs i x [] h ∙ ap f (sym is)

pub end-some : (files : Files) (last : ℕ) (bytes : List ℕ) → last ≡ length files - 1 → get_or files last [] ≡ bytes → moved (record { file = last; line = 1; column = 1 }) bytes ≡ end_of files
unfolding place_after
end-some files last bytes is here = moved-after last [] bytes ∙ rw (is, rw is at here) refl

pub end-none : (files : Files) → length files ≡ 0 → ◌≡◌ {A = Place} (record { file = 0; line = 1; column = 1 }) (end_of files)
unfolding place_after
end-none files empty = rw (nil_from_length files empty) refl
