-- A list sorted by the key of its words is in order by address and then by place.
use Rattle.std.proofs.Common.{◌≡◌, ℕ, ◌+◌, ◌*◌, ◌<◌, ◌≤◌, false, List, length, map, slice_index_or, subst, arith}
use Rattle.std.specs.List.Sorted.{IsNonDecreasingBy}
use Rattle.std.proofs.lemmas.Bool.Decides.{nat_tests}
use Rattle.std.proofs.lemmas.Option.{slice_get_within, get_or_from_slice_get}
use Rattle.bit_base.specs.Places.{is_before}
use Rattle.rdl_words.specs.declared.word.Word.{Word}
use Rattle.rdl_words.specs.Spots.{Spot}
use Rattle.rdl_words.specs.Words.{spot, key}
use Rattle.rdl_words.proofs.Orders.{AreInOrder, InOrder}
use Rattle.rdl_words.proofs.Swaps.{Seen, seen}

by_address : (a b f g l m c d : ℕ) → f < 4294967296 → g < 4294967296 → l < 4294967296 → m < 4294967296 → c < 4294967296 → d < 4294967296
    → ((a * 4294967296 + f) * 4294967296 + l) * 4294967296 + c ≤ ((b * 4294967296 + g) * 4294967296 + m) * 4294967296 + d → a ≤ b
by_address a b f g l m c d hf hg hl hm hc hd le = omega (arith, hf, hg, hl, hm, hc, hd, le)

by_place : (a b f g l m c d : ℕ) → a ≡ b → f < 4294967296 → g < 4294967296 → l < 4294967296 → m < 4294967296 → c < 4294967296 → d < 4294967296
    → ((a * 4294967296 + f) * 4294967296 + l) * 4294967296 + c ≤ ((b * 4294967296 + g) * 4294967296 + m) * 4294967296 + d
    → is_before (record { file = g; line = m; column = d }) (record { file = f; line = l; column = c }) ≡ false
by_place a b f g l m c d e hf hg hl hm hc hd le = grind (arith, nat_tests, e, hf, hg, hl, hm, hc, hd, le)

ordered : (u v : Word) → key u ≤ key v → AreInOrder (spot u) (spot v)
ordered u v le = record {
  address = by_address u.address v.address u.place.file v.place.file u.place.line v.place.line u.place.column v.place.column
      u.numbered.file v.numbered.file u.numbered.line v.numbered.line u.numbered.column v.numbered.column le;
  place = λ e. by_place u.address v.address u.place.file v.place.file u.place.line v.place.line u.place.column v.place.column e
      u.numbered.file v.numbered.file u.numbered.line v.numbered.line u.numbered.column v.numbered.column le;
}

pub in_order : (ws : List Word) → IsNonDecreasingBy key ws → InOrder (map spot ws)
in_order ws h i j a b lt ga gb =
    let u : Seen ws i a = seen ws i a ga in
    let v : Seen ws j b = seen ws j b gb in
    let bound : j < length ws = slice_get_within ws j v.word v.here in
    let raw : key (slice_index_or ws i u.word) ≤ key (slice_index_or ws j u.word) = h i j u.word (omega (arith, lt)) bound in
    let ui : slice_index_or ws i u.word ≡ u.word = get_or_from_slice_get ws i u.word u.word u.here in
    let vj : slice_index_or ws j u.word ≡ v.word = get_or_from_slice_get ws j v.word u.word v.here in
    let le : key u.word ≤ key v.word = subst (λ (x : Word). key u.word ≤ key x) vj (subst (λ (x : Word). key x ≤ key (slice_index_or ws j u.word)) ui raw) in
    subst (λ (x : Spot). AreInOrder a x) v.same (subst (λ (x : Spot). AreInOrder x (spot v.word)) u.same (ordered u.word v.word le))
