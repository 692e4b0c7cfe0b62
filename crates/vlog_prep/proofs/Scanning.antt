-- What the loop over a file's bytes keeps, and what its ends show.
use Rattle.std.proofs.Common.{◌≡◌, ◌≢◌, ℕ, ◌+◌, ◌<◌, ◌≤◌, true, false, List, [], ◌∷◌, ◌++◌, length, take, drop, refl, sym, ◌∙◌, ap, arith, append_assoc, length-append}
use Rattle.std.specs.Prelude.{Option, ◌==◌, fold}
use Rattle.std.proofs.lemmas.Bool.{true≢false, false≢true, eqb-true, eqb-false, and_parts}
use Rattle.std.proofs.lemmas.List.{append-nil, nil_from_length}
use Rattle.std.proofs.lemmas.List.Sums.{fold-append}
use Rattle.bit_base.specs.declared.place.Place.{Place}
use Rattle.vlog_tree.specs.declared.fault.VlogCode.TheVariants.{VlogByte}
use Rattle.vlog_tree.specs.declared.fault.VlogFault.TheVariants.{At}
use Rattle.vlog_prep.specs.declared.lexeme.Lexeme.{Lexeme}
use Rattle.vlog_prep.specs.declared.lexeme.Lexeme.TheVariants.{Blank, Passed, Continued, Tick, Identifier, Numeral, SystemName, Symbol}
use Rattle.vlog_prep.specs.declared.directive.Line.{Line}
use Rattle.vlog_prep.specs.declared.directive.Line.TheVariants as line_
use Rattle.vlog_prep.specs.declared.piece.Piece.{Piece}
use Rattle.vlog_prep.specs.declared.piece.Piece.TheVariants.{LineEnd}
use Rattle.vlog_prep.specs.Lexemes.{is_lexeme, stands, IsLongest, BeginsNone}
use Rattle.vlog_prep.specs.Lengths.{lexeme_at}
use Rattle.vlog_prep.specs.Places.{moved, place_after}
use Rattle.vlog_prep.specs.Pieces.{line_after, line_of, Makes, IsAllowed, begins_none, continued, Reads, start, next}
use Rattle.vlog_prep.specs.Prepared.{most_bytes}
use Rattle.vlog_prep.specs.Scanned.{strays, Appends, IsBadIn}
use Rattle.vlog_prep.proofs.Longest.{FindsLexeme, lexeme_at-finds}
use Rattle.vlog_prep.proofs.PlaceSteps.{moved-after, line-within, column-within}

-- The bytes are those that are read and those that are left.
pub reads-whole : (file : ℕ) (bytes : List ℕ) (pieces : List Piece) (front rest : List ℕ) → Reads file bytes pieces front rest → front ++ rest ≡ bytes
reads-whole file bytes _ _ _ start = refl
reads-whole file bytes _ _ _ (next pieces before here lexeme text after more r m allowed makes) =
    append_assoc before text after ∙ ap (λ w. before ++ w) (sym m.front) ∙ reads-whole file bytes pieces before here r

-- What a loop over a file's bytes keeps: the pieces so far behind those of earlier files, what is left, its place, and to what the line belongs.
pub record IsScanned (file : ℕ) (bytes : List ℕ) (old now : List Piece) (rest : List ℕ) (place : Place) (line : Line) : Type 0 where
  pub more : List Piece
  pub front : List ℕ
  pub read : Reads file bytes more front rest
  pub same : now ≡ old ++ more
  pub here : place ≡ place_after file front
  pub line_is : line ≡ line_of more
  pub small : length bytes ≤ most_bytes

pub found_at : (rest : List ℕ) (result found : Option (Lexeme × ℕ)) → result ≡ lexeme_at rest → result ≡ found → FindsLexeme rest found
found_at rest result found e f = rw (sym f, e) (lexeme_at-finds rest)

pub scanned-start : (file : ℕ) (bytes : List ℕ) (old : List Piece) → length bytes ≤ most_bytes → IsScanned file bytes old old bytes (record { file = file; line = 1; column = 1 }) line_.Plain
unfolding place_after
scanned-start file bytes old h = record { more = []; front = []; read = start; same = sym (append-nil old); here = refl; line_is = refl; small = h }

strays-not : (line : Line) → strays line Continued ≡ false → line ≡ line_.Defined
strays-not line_.Defined h = refl
strays-not line_.Plain h = elim (true≢false h) [ ]
strays-not line_.Ignored h = elim (true≢false h) [ ]

strays-continued : (line : Line) (lexeme : Lexeme) → strays line lexeme ≡ true → (lexeme ≡ Continued) × (line ≢ line_.Defined)
strays-continued line_.Defined lexeme h = elim (false≢true h) [ ]
strays-continued line_.Plain Continued h = (refl, λ e. cc e)
strays-continued line_.Ignored Continued h = (refl, λ e. cc e)
strays-continued line_.Plain _ h = elim (false≢true h) [ ]
strays-continued line_.Ignored _ h = elim (false≢true h) [ ]

allowed-from : (pieces : List Piece) (line : Line) (lexeme : Lexeme) → line ≡ line_of pieces → strays line lexeme ≡ false → IsAllowed pieces lexeme
allowed-from pieces line Continued e h = sym e ∙ strays-not line h
allowed-from pieces line Blank e h = tt
allowed-from pieces line Passed e h = tt
allowed-from pieces line Tick e h = tt
allowed-from pieces line Identifier e h = tt
allowed-from pieces line Numeral e h = tt
allowed-from pieces line SystemName e h = tt
allowed-from pieces line Symbol e h = tt

module _ (file : ℕ) (bytes : List ℕ) (old now : List Piece) (rest : List ℕ) (place : Place) (line : Line) (scanned : IsScanned file bytes old now rest place line) where
  scanned-length : length scanned.front + length rest ≡ length bytes
  scanned-length = sym (length-append scanned.front rest) ∙ ap length (reads-whole file bytes scanned.more scanned.front rest scanned.read)

  pub scanned-line : (n : ℕ) → n ≤ length rest → place.line + n < 4294967296
  scanned-line n h = rw scanned.here (omega (arith, line-within file scanned.front, scanned-length, scanned.small))

  pub scanned-column : (n : ℕ) → n ≤ length rest → place.column + n < 4294967296
  scanned-column n h = rw scanned.here (omega (arith, column-within file scanned.front, scanned-length, scanned.small))

  pub scanned-next : (lexeme : Lexeme) (text after : List ℕ) (pieces : List Piece) → IsLongest rest lexeme text after → strays line lexeme ≡ false → Makes place after lexeme text pieces
      → IsScanned file bytes old (now ++ pieces) after (moved place text) (fold line_after line pieces)
  scanned-next lexeme text after pieces m free makes = record {
    more = scanned.more ++ pieces;
    front = scanned.front ++ text;
    read = next scanned.more scanned.front rest lexeme text after pieces scanned.read m (allowed-from scanned.more line lexeme scanned.line_is free) (rw (scanned.here) at makes);
    same = ap (λ w. w ++ pieces) scanned.same ∙ append_assoc old scanned.more pieces;
    here = ap (λ p. moved p text) scanned.here ∙ moved-after file scanned.front text;
    line_is = ap (λ l. fold line_after l pieces) scanned.line_is ∙ sym (fold-append line_after line_.Plain scanned.more pieces);
    small = scanned.small;
  }

  pub scanned-none : rest ≢ [] → BeginsNone rest → IsBadIn file bytes (At VlogByte place [] [])
  scanned-none some none = (
    record { found = scanned.more; front = scanned.front; rest = rest; read = scanned.read; bad = begins_none some none; here = scanned.here },
    refl,
    refl,
  )

  pub scanned-stray : (lexeme : Lexeme) (text after : List ℕ) → IsLongest rest lexeme text after → strays line lexeme ≡ true → IsBadIn file bytes (At VlogByte place [] [])
  scanned-stray lexeme text after m h =
      let p = strays-continued line lexeme h in
      let free : line_of scanned.more ≢ line_.Defined = λ e. p.1 (scanned.line_is ∙ e) in (
        record { found = scanned.more; front = scanned.front; rest = rest; read = scanned.read; bad = continued text after (rw p.0 at m) free; here = scanned.here },
        refl,
        refl,
      )

pub scanned-end : (file : ℕ) (bytes : List ℕ) (old now : List Piece) (place : Place) (line : Line) → IsScanned file bytes old now [] place line → Appends file bytes old (now ++ LineEnd ∷ [])
scanned-end file bytes old now place line scanned =
    let whole : scanned.front ≡ bytes = sym (append-nil scanned.front) ∙ reads-whole file bytes scanned.more scanned.front [] scanned.read in
    record {
      more = scanned.more;
      read = rw whole at scanned.read;
      same = ap (λ w. w ++ LineEnd ∷ []) scanned.same ∙ append_assoc old scanned.more (LineEnd ∷ []);
    }

-- What stands there is spelled as its lexeme.
pub stands-spelled : (rest : List ℕ) (lexeme : Lexeme) (text : List ℕ) → stands rest lexeme text ≡ true → is_lexeme lexeme text ≡ true
stands-spelled rest lexeme text h = (and_parts (is_lexeme lexeme text) _ h).0

pub some_left : (rest : List ℕ) → (length rest == 0) ≡ false → rest ≢ []
some_left rest h e = eqb-false (length rest) 0 h (ap length e)

pub none_left : (rest : List ℕ) → (length rest == 0) ≡ true → rest ≡ []
none_left rest h = nil_from_length rest (eqb-true (length rest) 0 h)

-- The longest match under other names of its parts.
pub longest_at : (rest : List ℕ) (lexeme : Lexeme) (len : ℕ) (text after : List ℕ) → IsLongest rest lexeme (take len rest) (drop len rest) → text ≡ take len rest → after ≡ drop len rest
    → IsLongest rest lexeme text after
longest_at rest lexeme len text after m f g = rw (f, g) m
