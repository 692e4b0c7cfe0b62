-- That the bytes of the files determine what preparing answers, but for want of memory.
use Rattle.std.proofs.Common.{◌≡◌, ◌≢◌, ℕ, ◌<◌, ◌≤◌, inl, inr, true, List, [], ◌∷◌, ◌++◌, length, take, drop, get_or, reverse, refl, sym, ◌∙◌, ap, subst, arith, append_assoc, length-append}
use Rattle.std.specs.Prelude.{not, Some, Result, Ok, Err}
use Rattle.std.proofs.lemmas.Bool.{true≢false, and_parts, cases_lt, not-true}
use Rattle.std.proofs.Math.Bool.{Bool-set}
use Rattle.std.proofs.Math.Seq.{get_or-append_seam}
use Rattle.std.proofs.lemmas.List.{append-nil, take_at, drop_at, reverse-append, reverse-reverse, get_or_append_left}
use Rattle.std.proofs.lemmas.Option.{none-some}
use Rattle.bit_base.specs.declared.place.Place.{Place}
use Rattle.vlog_tree.specs.declared.token.VTokenKind.{VTokenKind}
use Rattle.vlog_tree.specs.declared.token.VTokenKind.TheVariants.{Name, Word, Number, System, Mark}
use Rattle.vlog_tree.specs.declared.token.VToken.{VToken}
use Rattle.vlog_tree.specs.declared.token.VTokens.{VTokens}
use Rattle.vlog_tree.specs.declared.fault.VlogCode.{VlogCode}
use Rattle.vlog_tree.specs.declared.fault.VlogCode.TheVariants.{VlogByte, VlogDirective, VlogSize}
use Rattle.vlog_tree.specs.declared.fault.VlogFault.{VlogFault}
use Rattle.vlog_tree.specs.declared.fault.VlogFault.TheVariants.{NoMemory, At}
use Rattle.vlog_tree.specs.Spelling.{is_identifier, is_quoted, is_token}
use Rattle.vlog_prep.specs.declared.lexeme.Lexeme.{Lexeme}
use Rattle.vlog_prep.specs.declared.lexeme.Lexeme.TheVariants.{Blank, Passed, Continued, Tick, Identifier, Numeral, SystemName, Symbol}
use Rattle.vlog_prep.specs.declared.piece.Piece.{Piece}
use Rattle.vlog_prep.specs.declared.piece.Piece.TheVariants.{Token, Directive, LineEnd}
use Rattle.vlog_prep.specs.Lexemes.{IsLongest}
use Rattle.vlog_prep.specs.Lengths.{first_lexeme}
use Rattle.vlog_prep.specs.Places.{place_after}
use Rattle.vlog_prep.specs.Pieces.{lexeme_of, begins_with, IsTokenOf, AreToken, Makes, IsAllowed, IsBad, begins_none, continued, Reads, start, next, AreRead, none, file}
use Rattle.vlog_prep.specs.Reading.{prepared}
use Rattle.vlog_prep.specs.Prepared.{most_bytes, Files, AreSmall, IsFirstLong, ArePrepared, IsBadAt, AreRefused, Refuses, Answers, OneAnswer}
use Rattle.vlog_prep.proofs.Longest.{fronts, same_lexeme}

none_first : (lexeme : Lexeme) → first_lexeme [] ≡ Some lexeme → ⊥
unfolding first_lexeme
none_first lexeme h = none-some lexeme h

-- Nothing stands where nothing is left.
longest-some : (lexeme : Lexeme) (text after : List ℕ) → IsLongest [] lexeme text after → ⊥
longest-some lexeme text after m = none_first lexeme (fronts [] lexeme text after m.front m.spelled).0

-- There is one longest match.
module _ (rest : List ℕ) (p q : Lexeme) (t u a b : List ℕ) (m : IsLongest rest p t a) (n : IsLongest rest q u b) where
  longest-lexeme : p ≡ q
  longest-lexeme = same_lexeme rest p q (fronts rest p t a m.front m.spelled).0 (fronts rest q u b n.front n.spelled).0

  longest-length : length t ≡ length u
  longest-length = omega (arith, m.longest q u b n.front n.spelled, n.longest p t a m.front m.spelled)

  longest-text : t ≡ u
  longest-text = sym (take_at t a (length u) longest-length) ∙ ap (take (length u)) (sym m.front ∙ n.front) ∙ take_at u b (length u) refl

  longest-after : a ≡ b
  longest-after = sym (drop_at t a (length u) longest-length) ∙ ap (drop (length u)) (sym m.front ∙ n.front) ∙ drop_at u b (length u) refl

-- A text is a name or a word, and not both.
name_or_word : (w : List ℕ) → is_token Name w ≡ true → is_token Word w ≡ true → ⊥
unfolding is_token
name_or_word w e f = true≢false (sym (and_parts (is_identifier w) (is_quoted w) f).1 ∙ not-true (is_quoted w) (and_parts (is_identifier w) (not (is_quoted w)) e).1)

same_kind : (k l : VTokenKind) (w : List ℕ) → lexeme_of k ≡ lexeme_of l → is_token k w ≡ true → is_token l w ≡ true → k ≡ l
same_kind Name Name w h e f = refl
same_kind Name Word w h e f = absurd (name_or_word w e f)
same_kind Word Name w h e f = absurd (name_or_word w f e)
same_kind Word Word w h e f = refl
same_kind Number Number w h e f = refl
same_kind System System w h e f = refl
same_kind Mark Mark w h e f = refl
same_kind Name Number w h e f = cc h
same_kind Name System w h e f = cc h
same_kind Name Mark w h e f = cc h
same_kind Word Number w h e f = cc h
same_kind Word System w h e f = cc h
same_kind Word Mark w h e f = cc h
same_kind Number Name w h e f = cc h
same_kind Number Word w h e f = cc h
same_kind Number System w h e f = cc h
same_kind Number Mark w h e f = cc h
same_kind System Name w h e f = cc h
same_kind System Word w h e f = cc h
same_kind System Number w h e f = cc h
same_kind System Mark w h e f = cc h
same_kind Mark Name w h e f = cc h
same_kind Mark Word w h e f = cc h
same_kind Mark Number w h e f = cc h
same_kind Mark System w h e f = cc h

-- The parts of a token.
with_parts : (p : VTokenKind × List ℕ × Place) → is_token p.0 p.1 ≡ true → VToken
with_parts p h = record { kind = p.0; text = p.1; place = p.2; spelled = h }

with_parts-same : (p q : VTokenKind × List ℕ × Place) → p ≡ q → (s : is_token p.0 p.1 ≡ true) (u : is_token q.0 q.1 ≡ true) → with_parts p s ≡ with_parts q u
with_parts-same p q e s = subst (λ x. (u : is_token x.0 x.1 ≡ true) → with_parts p s ≡ with_parts x u) e (λ u. ap (λ h. with_parts p h) (Bool-set _ _ s u))

same_token : (t u : VToken) → t.kind ≡ u.kind → t.text ≡ u.text → t.place ≡ u.place → t ≡ u
unfolding with_parts
same_token t u kind text place = with_parts-same (t.kind, t.text, t.place) (u.kind, u.text, u.place) (rw (kind, text, place) refl) t.spelled u.spelled

token_of-same : (place : Place) (lexeme : Lexeme) (text : List ℕ) (t u : VToken) → IsTokenOf place lexeme text t → IsTokenOf place lexeme text u → t ≡ u
token_of-same place lexeme text t u h g =
    let texts : t.text ≡ u.text = h.same_text ∙ sym g.same_text in
    let spelled : is_token t.kind u.text ≡ true = rw texts at t.spelled in
    same_token t u (same_kind t.kind u.kind u.text (h.kind ∙ sym g.kind) spelled u.spelled) texts (h.here ∙ sym g.here)

-- The one token that pieces are.
IsOneToken : Place → List ℕ → Lexeme → List ℕ → List Piece → Type 0
IsOneToken place after lexeme text pieces = (t : VToken) × IsTokenOf place lexeme text t × (pieces ≡ Token t (begins_with 40 after) ∷ [])

one_token : (place : Place) (after : List ℕ) (lexeme : Lexeme) (text : List ℕ) (pieces : List Piece) → AreToken place after lexeme text pieces → IsOneToken place after lexeme text pieces
unfolding IsOneToken
one_token place after lexeme text [] h = absurd h
one_token place after lexeme text (Token t called ∷ []) h = (t, h.0, ap (λ b. Token t b ∷ []) h.1)
one_token place after lexeme text (Token t called ∷ p ∷ ps) h = absurd h
one_token place after lexeme text (Directive name at ∷ ps) h = absurd h
one_token place after lexeme text (LineEnd ∷ ps) h = absurd h

tokens-same : (place : Place) (after : List ℕ) (lexeme : Lexeme) (text : List ℕ) (ps qs : List Piece) → AreToken place after lexeme text ps → AreToken place after lexeme text qs → ps ≡ qs
unfolding IsOneToken
tokens-same place after lexeme text ps qs h g =
    let p = one_token place after lexeme text ps h in
    let q = one_token place after lexeme text qs g in
    p.2 ∙ ap (λ t. Token t (begins_with 40 after) ∷ []) (token_of-same place lexeme text p.0 q.0 p.1 q.1) ∙ sym q.2

makes-same : (place : Place) (after : List ℕ) (lexeme : Lexeme) (text : List ℕ) (ps qs : List Piece) → Makes place after lexeme text ps → Makes place after lexeme text qs → ps ≡ qs
makes-same place after Blank text ps qs h g = h ∙ sym g
makes-same place after Passed text ps qs h g = h ∙ sym g
makes-same place after Continued text ps qs h g = h ∙ sym g
makes-same place after Tick text ps qs h g = h ∙ sym g
makes-same place after Identifier text ps qs h g = tokens-same place after Identifier text ps qs h g
makes-same place after Numeral text ps qs h g = tokens-same place after Numeral text ps qs h g
makes-same place after SystemName text ps qs h g = tokens-same place after SystemName text ps qs h g
makes-same place after Symbol text ps qs h g = tokens-same place after Symbol text ps qs h g

-- How the reading of a file ends.
data Ending : Type 0 where
  Whole : Ending
  Bad : Place → Ending

module _ (number : ℕ) where
  -- The pieces that are still read of what is left behind those that are read, and how that ends.
  data Runs : List Piece → List ℕ → List ℕ → List Piece → Ending → Type 0 where
    ended : {done : List Piece} {front : List ℕ} → Runs done front [] [] Whole
    stopped : {done : List Piece} {front rest : List ℕ} → IsBad done rest → Runs done front rest [] (Bad (place_after number front))
    takes : {done : List Piece} {front rest : List ℕ} {more : List Piece} {e : Ending} (lexeme : Lexeme) (text after : List ℕ) (pieces : List Piece) → IsLongest rest lexeme text after
        → IsAllowed done lexeme → Makes (place_after number front) after lexeme text pieces → Runs (done ++ pieces) (front ++ text) after more e → Runs done front rest (pieces ++ more) e

  -- What is read and what is still read are the whole.
  join : (bytes : List ℕ) (done : List Piece) (front rest : List ℕ) (more : List Piece) (e : Ending) → Reads number bytes done front rest → Runs done front rest more e → Runs [] [] bytes (done ++ more) e
  join bytes _ _ _ more e start runs = runs
  join bytes _ _ _ more e (next done front rest lexeme text after pieces r m allowed makes) runs =
      rw (append_assoc done pieces more) (join bytes done front rest (pieces ++ more) e r (takes lexeme text after pieces m allowed makes runs))

  bad-not_read : (done : List Piece) (rest text after : List ℕ) (lexeme : Lexeme) → IsBad done rest → IsLongest rest lexeme text after → IsAllowed done lexeme → ⊥
  bad-not_read done rest text after lexeme (begins_none some absent) m allowed = true≢false (sym m.spelled ∙ absent lexeme text after m.front)
  bad-not_read done rest text after lexeme (continued u b n free) m allowed =
      free (subst (λ l. IsAllowed done l) (longest-lexeme rest lexeme Continued text u after b m n) allowed)

  abbrev Follows : List Piece → List ℕ → List ℕ → List ℕ → List Piece → List Piece → Ending → Type 0
  Follows done front text after pieces more e = (ws : List Piece) × (more ≡ pieces ++ ws) × Runs (done ++ pieces) (front ++ text) after ws e

  -- What still is read begins with the next lexeme.
  next-run : (done : List Piece) (front rest : List ℕ) (lexeme : Lexeme) (text after : List ℕ) (pieces more : List Piece) (e : Ending) → IsLongest rest lexeme text after → IsAllowed done lexeme
      → Makes (place_after number front) after lexeme text pieces → Runs done front rest more e → Follows done front text after pieces more e
  next-run done front _ lexeme text after pieces _ _ m allowed makes ended = absurd (longest-some lexeme text after m)
  next-run done front rest lexeme text after pieces _ _ m allowed makes (stopped bad) = absurd (bad-not_read done rest text after lexeme bad m allowed)
  next-run done front rest lexeme text after pieces _ e m allowed makes (takes {more = ws} l t a ps n permitted made runs) =
      let lexemes = longest-lexeme rest l lexeme t text a after n m in
      let texts = longest-text rest l lexeme t text a after n m in
      let afters = longest-after rest l lexeme t text a after n m in
      let here : Makes (place_after number front) after lexeme text ps = rw (lexemes, texts, afters) at made in
      let same = makes-same (place_after number front) after lexeme text ps pieces here makes in
      (ws, ap (λ w. w ++ ws) same, rw (texts, afters, same) at runs)

  abbrev Continues : List Piece → List ℕ → List ℕ → List Piece → Ending → Type 0
  Continues done front rest us e = (vs : List Piece) × (us ≡ done ++ vs) × Runs done front rest vs e

  -- A reading that is under way is the front of the whole.
  continue : (bytes : List ℕ) (done : List Piece) (front rest : List ℕ) (us : List Piece) (e : Ending) → Reads number bytes done front rest → Runs [] [] bytes us e → Continues done front rest us e
  continue bytes _ _ _ us e start runs = (us, refl, runs)
  continue bytes _ _ _ us e (next done front rest lexeme text after pieces r m allowed makes) runs =
      let c = continue bytes done front rest us e r runs in
      let n = next-run done front rest lexeme text after pieces c.0 e m allowed makes c.2 in
      (n.0, c.1 ∙ ap (λ w. done ++ w) n.1 ∙ sym (append_assoc done pieces n.0), n.2)

  bad-some : (done : List Piece) → IsBad done [] → ⊥
  bad-some done (begins_none some absent) = some refl
  bad-some done (continued u b n free) = longest-some Continued u b n

  end-run : (done : List Piece) (front : List ℕ) (vs : List Piece) (e : Ending) → Runs done front [] vs e → (vs ≡ []) × (e ≡ Whole)
  end-run done front _ _ ended = (refl, refl)
  end-run done front _ _ (stopped bad) = absurd (bad-some done bad)
  end-run done front _ _ (takes l t a ps n permitted made runs) = absurd (longest-some l t a n)

  bad-run : (done : List Piece) (front rest : List ℕ) (vs : List Piece) (e : Ending) → IsBad done rest → Runs done front rest vs e → (vs ≡ []) × (e ≡ Bad (place_after number front))
  bad-run done front _ _ _ bad ended = absurd (bad-some done bad)
  bad-run done front rest _ _ bad (stopped other) = (refl, refl)
  bad-run done front rest _ _ bad (takes l t a ps n permitted made runs) = absurd (bad-not_read done rest t a l bad n permitted)

  whole-run : (bytes : List ℕ) (pieces : List Piece) → Reads number bytes pieces bytes [] → Runs [] [] bytes pieces Whole
  whole-run bytes pieces r = rw (append-nil pieces) at (join bytes pieces bytes [] [] Whole r ended)

  bad_place-run : (bytes : List ℕ) (pieces : List Piece) (front rest : List ℕ) → Reads number bytes pieces front rest → IsBad pieces rest → Runs [] [] bytes pieces (Bad (place_after number front))
  bad_place-run bytes pieces front rest r bad = rw (append-nil pieces) at (join bytes pieces front rest [] (Bad (place_after number front)) r (stopped bad))

  pub file-same : (bytes : List ℕ) (ps qs : List Piece) → Reads number bytes ps bytes [] → Reads number bytes qs bytes [] → ps ≡ qs
  file-same bytes ps qs r s =
      let c = continue bytes ps bytes [] qs Whole r (whole-run bytes qs s) in
      sym (c.1 ∙ ap (λ w. ps ++ w) (end-run ps bytes c.0 Whole c.2).0 ∙ append-nil ps)

  whole_is_not_bad : (place : Place) → Whole ≡ Bad place → ⊥
  whole_is_not_bad place e = cc e

  pub file-not_bad : (bytes : List ℕ) (ps qs : List Piece) (front rest : List ℕ) → Reads number bytes ps bytes [] → Reads number bytes qs front rest → IsBad qs rest → ⊥
  file-not_bad bytes ps qs front rest r s bad =
      let c = continue bytes qs front rest ps Whole s (whole-run bytes ps r) in
      whole_is_not_bad (place_after number front) (bad-run qs front rest c.0 Whole bad c.2).1

  place_of : Ending → Place
  place_of Whole = record { file = 0; line = 0; column = 0 }
  place_of (Bad place) = place

  pub file-bad_same : (bytes : List ℕ) (ps qs : List Piece) (front rest front' rest' : List ℕ) → Reads number bytes ps front rest → IsBad ps rest → Reads number bytes qs front' rest' → IsBad qs rest'
      → place_after number front ≡ place_after number front'
  unfolding place_of
  file-bad_same bytes ps qs front rest front' rest' r bad s bad' =
      let c = continue bytes ps front rest qs (Bad (place_after number front')) r (bad_place-run bytes qs front' rest' s bad') in
      sym (ap place_of (bad-run ps front rest c.0 (Bad (place_after number front')) bad c.2).1)

-- Lists with one more at the end.
snoc-same : {A : Type 0} (xs ys : List A) (x y : A) → xs ++ x ∷ [] ≡ ys ++ y ∷ [] → (xs ≡ ys) × (x ≡ y)
snoc-same {A} xs ys x y h = by_cons (reverse xs) (reverse ys) (reverse-reverse xs) (reverse-reverse ys) (sym (reverse-append xs (x ∷ [])) ∙ ap reverse h ∙ reverse-append ys (y ∷ []))
  where
    by_cons : (us vs : List A) → reverse us ≡ xs → reverse vs ≡ ys → x ∷ us ≡ y ∷ vs → (xs ≡ ys) × (x ≡ y)
    by_cons us vs e f g =
        let heads : x ≡ y = cc in
        let tails : us ≡ vs = cc in
        (sym e ∙ ap reverse tails ∙ f, heads)

snoc-some : {A : Type 0} (xs : List A) (x : A) → xs ++ x ∷ [] ≡ [] → ⊥
snoc-some [] x h = cc h
snoc-some (y ∷ ys) x h = cc h

-- The pieces of files are determined by the files.
pieces-same : (f g : Files) (ps qs : List Piece) → AreRead f ps → AreRead g qs → f ≡ g → ps ≡ qs
pieces-same _ _ _ _ none none h = refl
pieces-same _ _ _ _ none (file files pieces bytes more read here) h = absurd (snoc-some files bytes (sym h))
pieces-same _ _ _ _ (file files pieces bytes more read here) none h = absurd (snoc-some files bytes h)
pieces-same _ _ _ _ (file files pieces bytes more read here) (file files' pieces' bytes' more' read' here') h =
    let s = snoc-same files files' bytes bytes' h in
    let earlier = pieces-same files files' pieces pieces' read read' s.0 in
    let there : Reads (length files) bytes more' bytes [] = rw (s.0, s.1) here' in
    rw (earlier, file-same (length files) bytes more more' here there) refl

-- A file that is read, among files that are.
IsFileRead : Files → ℕ → Type 0
IsFileRead files k = (found : List Piece) × Reads k (get_or files k []) found (get_or files k []) []

file-at : (f : Files) (ps : List Piece) (k : ℕ) → AreRead f ps → k < length f → IsFileRead f k
unfolding IsFileRead
file-at _ _ k none h = absurd (omega (arith, h))
file-at _ _ k (file files pieces bytes more read here) h =
    elim (cases_lt k (length files)) [
      | inl e ↦ (let earlier = file-at files pieces k read e in rw (get_or_append_left files (bytes ∷ []) [] k e) earlier)
      | inr e ↦ (
          let same : k ≡ length files = omega (arith, h, length-append files (bytes ∷ [])) in
          rw same (rw (get_or-append_seam files bytes [] []) (more, here)))
    ]

-- The file at the number of those before it.
split-get : (files before : Files) (bytes : List ℕ) (more : Files) → files ≡ before ++ bytes ∷ more → get_or files (length before) [] ≡ bytes
split-get files before bytes more h = rw h (get_or-append_seam before bytes more [])

split-within : (files before : Files) (bytes : List ℕ) (more : Files) → files ≡ before ++ bytes ∷ more → length before < length files
split-within files before bytes more h = omega (arith, ap length h, length-append before (bytes ∷ more))

split-front : (files before : Files) (bytes : List ℕ) (more : Files) (k : ℕ) → files ≡ before ++ bytes ∷ more → k < length before → get_or before k [] ≡ get_or files k []
split-front files before bytes more k h within = sym (rw h (get_or_append_left before (bytes ∷ more) [] k within))

-- Where a place is bad, the file isn't read.
bad-not_read_at : (files : Files) (place : Place) (b : IsBadAt files place) → IsFileRead files (length b.before) → ⊥
unfolding IsFileRead
bad-not_read_at files place b r =
    let get = split-get files b.before b.bytes b.more b.split in
    let here : Reads (length b.before) b.bytes r.0 b.bytes [] = rw get at r.1 in
    file-not_bad (length b.before) b.bytes r.0 b.found b.front b.rest here b.read_here b.bad

bad-not_read_all : (files : Files) (place : Place) (ps : List Piece) → IsBadAt files place → AreRead files ps → ⊥
bad-not_read_all files place ps b r = bad-not_read_at files place b (file-at files ps (length b.before) r (split-within files b.before b.bytes b.more b.split))

-- Of two bad places neither stands in an earlier file.
bad-not_before : (files : Files) (p q : Place) (b : IsBadAt files p) (c : IsBadAt files q) → length b.before < length c.before → ⊥
unfolding IsFileRead
bad-not_before files p q b c h =
    let r = file-at c.before c.pieces (length b.before) c.read h in
    bad-not_read_at files p b (rw (split-front files c.before c.bytes c.more (length b.before) c.split h) at r)

bad-same : (files : Files) (p q : Place) → IsBadAt files p → IsBadAt files q → p ≡ q
bad-same files p q b c =
    elim (cases_lt (length b.before) (length c.before)) [
      | inl e ↦ absurd (bad-not_before files p q b c e)
      | inr e ↦ elim (cases_lt (length c.before) (length b.before)) [
        | inl f ↦ absurd (bad-not_before files q p c b f)
        | inr f ↦ (
            let numbers : length b.before ≡ length c.before = omega arith in
            let bytes : b.bytes ≡ c.bytes = sym (split-get files b.before b.bytes b.more b.split) ∙ ap (λ k. get_or files k []) numbers ∙ split-get files c.before c.bytes c.more c.split in
            let there : Reads (length b.before) b.bytes c.found c.front c.rest = rw (numbers, bytes) c.read_here in
            b.here ∙ file-bad_same (length b.before) b.bytes b.found c.found b.front b.rest c.front c.rest b.read_here b.bad there c.bad ∙ ap (λ k. place_after k c.front) numbers ∙ sym c.here)
      ]
    ]

-- The first file that is too long.
pub long-not_small : (files : Files) (place : Place) → IsFirstLong files place → AreSmall files → ⊥
long-not_small files place l small =
    let here : length l.bytes ≤ most_bytes = rw (split-get files l.before l.bytes l.more l.split) at (small (length l.before)) in
    omega (arith, here, l.long)

long-not_before : (files : Files) (p q : Place) (l : IsFirstLong files p) (m : IsFirstLong files q) → length l.before < length m.before → ⊥
long-not_before files p q l m h =
    let same : get_or m.before (length l.before) [] ≡ l.bytes = split-front files m.before m.bytes m.more (length l.before) m.split h ∙ split-get files l.before l.bytes l.more l.split in
    let here : length l.bytes ≤ most_bytes = rw same at (m.small (length l.before)) in
    omega (arith, here, l.long)

pub long-same : (files : Files) (p q : Place) → IsFirstLong files p → IsFirstLong files q → p ≡ q
long-same files p q l m =
    elim (cases_lt (length l.before) (length m.before)) [
      | inl e ↦ absurd (long-not_before files p q l m e)
      | inr e ↦ elim (cases_lt (length m.before) (length l.before)) [
        | inl f ↦ absurd (long-not_before files q p m l f)
        | inr f ↦ (let numbers : length l.before ≡ length m.before = omega arith in l.here ∙ at_number (length l.before) (length m.before) numbers ∙ sym m.here)
      ]
    ]
  where
    at_number : (k n : ℕ) → k ≡ n → ◌≡◌ {A = Place} (record { file = k; line = 0; column = 0 }) (record { file = n; line = 0; column = 0 })
    at_number k n e = rw e refl

-- The answers but want of memory.
data Says (files : Files) : Result VTokens VlogFault → Type 0 where
  says_tokens : (tokens : VTokens) → ArePrepared files tokens → Says files (Ok tokens)
  says_bad : (place : Place) → IsBadAt files place → Says files (Err (At VlogByte place [] []))
  says_refused : (code : VlogCode) (place : Place) → AreRefused files code place → Says files (Err (At code place [] []))
  says_long : (place : Place) → IsFirstLong files place → Says files (Err (At VlogSize place [] []))

says-fault : (files : Files) (fault : VlogFault) → Refuses files fault → ◌≢◌ {A = Result VTokens VlogFault} (Err fault) (Err NoMemory) → Says files (Err fault)
says-fault files NoMemory h some = absurd (some refl)
says-fault files (At VlogByte place names path) h some = let b = h.bad_byte refl in rw (b.1, b.2) (says_bad place b.0)
says-fault files (At VlogDirective place names path) h some = let b = h.directive refl in rw (b.1, b.2) (says_refused VlogDirective place b.0)
says-fault files (At VlogSize place names path) h some =
    let b = h.too_large refl in
    rw (b.1, b.2) (elim b.0 [ inl l ↦ says_long place l | inr r ↦ says_refused VlogSize place r ])
says-fault files (At _ place names path) h some = absurd h.codes

says : (files : Files) (a : Result VTokens VlogFault) → Answers files a → a ≢ Err NoMemory → Says files a
says files (Ok tokens) h some = says_tokens tokens h
says files (Err fault) h some = says-fault files fault h some

ok-err : {A B : Type 0} (a : A) (b : B) → Ok a ≡ Err b → ⊥
ok-err a b h = cc h

ok-same : {A B : Type 0} (a b : A) → ◌≡◌ {A = Result A B} (Ok a) (Ok b) → a ≡ b
ok-same a b h = cc h

err-same : {A B : Type 0} (a b : B) → ◌≡◌ {A = Result A B} (Err a) (Err b) → a ≡ b
err-same a b h = cc h

prepared-same : (files : Files) (ps qs : List Piece) → AreRead files ps → AreRead files qs → prepared ps ≡ prepared qs
prepared-same files ps qs r s = ap prepared (pieces-same files files ps qs r s refl)

tokens-same_by : (t u : VTokens) → t.list ≡ u.list → t.end ≡ u.end → t ≡ u
tokens-same_by t u e f = λ i. record { list = e i; end = f i }

same_answer : (files : Files) (a b : Result VTokens VlogFault) → Says files a → Says files b → a ≡ b
same_answer files _ _ (says_tokens t h) (says_tokens u g) =
    ap Ok (tokens-same_by t u (ok-same t.list u.list (sym h.meaning ∙ prepared-same files h.pieces g.pieces h.read g.read ∙ g.meaning)) (h.same_end ∙ sym g.same_end))
same_answer files _ _ (says_tokens t h) (says_bad q g) = absurd (bad-not_read_all files q h.pieces g h.read)
same_answer files _ _ (says_tokens t h) (says_refused code q g) = absurd (ok-err t.list (At code q [] []) (sym h.meaning ∙ prepared-same files h.pieces g.pieces h.read g.read ∙ g.meaning))
same_answer files _ _ (says_tokens t h) (says_long q g) = absurd (long-not_small files q g h.small)
same_answer files _ _ (says_bad p h) (says_tokens u g) = absurd (bad-not_read_all files p g.pieces h g.read)
same_answer files _ _ (says_bad p h) (says_bad q g) = ap (λ place. Err (At VlogByte place [] [])) (bad-same files p q h g)
same_answer files _ _ (says_bad p h) (says_refused code q g) = absurd (bad-not_read_all files p g.pieces h g.read)
same_answer files _ _ (says_bad p h) (says_long q g) = absurd (long-not_small files q g h.small)
same_answer files _ _ (says_refused code p h) (says_tokens u g) = absurd (ok-err u.list (At code p [] []) (sym g.meaning ∙ prepared-same files g.pieces h.pieces g.read h.read ∙ h.meaning))
same_answer files _ _ (says_refused code p h) (says_bad q g) = absurd (bad-not_read_all files q h.pieces g h.read)
same_answer files _ _ (says_refused code p h) (says_refused code' q g) =
    ap Err (err-same (At code p [] []) (At code' q [] []) (sym h.meaning ∙ prepared-same files h.pieces g.pieces h.read g.read ∙ g.meaning))
same_answer files _ _ (says_refused code p h) (says_long q g) = absurd (long-not_small files q g h.small)
same_answer files _ _ (says_long p h) (says_tokens u g) = absurd (long-not_small files p h g.small)
same_answer files _ _ (says_long p h) (says_bad q g) = absurd (long-not_small files p h g.small)
same_answer files _ _ (says_long p h) (says_refused code q g) = absurd (long-not_small files p h g.small)
same_answer files _ _ (says_long p h) (says_long q g) = ap (λ place. Err (At VlogSize place [] [])) (long-same files p q h g)

pub one_answer-law : OneAnswer
one_answer-law files a b h g some_a some_b = same_answer files a b (says files a h some_a) (says files b g some_b)
