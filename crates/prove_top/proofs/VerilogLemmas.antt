-- The Verilog text of two expressions is read as them, and only it is.
use Rattle.std.proofs.Common.{◌≡◌, ℕ, ◌+◌, ◌-◌, ◌<◌, ◌≤◌, true, List, [], ◌∷◌, ◌++◌, length, take, Some, None, refl, sym, ◌∙◌, ap, append-nil, length-append, arith}
use Rattle.std.proofs.Math.Seq.{take-append_seam, drop-append_seam}
use Rattle.std.proofs.lemmas.Bool.{cond-true, le-leb, leb-true}
use Rattle.std.proofs.lemmas.Slice.Eq.{bytes_eq-Decides}
use Rattle.trace_replay.specs.declared.expression.Expression.{Expression}
use Rattle.prove_top.specs.declared.verilog.Drivers.{Drivers}
use Rattle.prove_top.specs.declared.verilog.TheConstants.{VERILOG_HEAD, VERILOG_MIDDLE, VERILOG_TAIL}
use Rattle.prove_top.specs.declared.expressions.TheConstants.{NEST_LIMIT, LENGTH_LIMIT}
use Rattle.prove_top.specs.Spelling.{spelling, nest, IsFirstForm}
use Rattle.prove_top.specs.Reading.{Read, begins, past, marked, expression_at, limited_at}
use Rattle.prove_top.specs.Verilog.{two_at, drivers_at, drivers_of, verilog_text, whole, whole_at, AreFirstForm}
use Rattle.prove_top.proofs.CompleteLemmas.{complete}
use Rattle.prove_top.proofs.SoundLemmas.{sound, then_cases, same_pair, marked_sound, if_cases, none_some}

-- a mark at the front of a text is read
marked-front : {A : Type 0} (text : List ℕ) (value : A) (rest : List ℕ) → marked text value (text ++ rest) ≡ Some (value, rest)
marked-front text value rest =
    let is : begins text (text ++ rest) ≡ true = (bytes_eq-Decides text (take (length text) (text ++ rest))).1 (sym (take-append_seam text rest)) in
    cond-true (begins text (text ++ rest)) (Some (value, past text (text ++ rest))) None is ∙ ap (λ r. Some (value, r)) (drop-append_seam text rest)

limited-complete : (expression : Expression) (rest : List ℕ) → IsFirstForm expression → limited_at (spelling expression ++ rest) ≡ Some (expression, rest)
unfolding limited_at
limited-complete expression rest form =
    let nested : nest expression < NEST_LIMIT + 1 = let h : nest expression ≤ NEST_LIMIT = form.nested in omega arith in
    let long : length (spelling expression ++ rest) - length rest ≤ LENGTH_LIMIT = let h : length (spelling expression) ≤ LENGTH_LIMIT = form.long in simp length-append (omega arith) in
    rw (complete (NEST_LIMIT + 1) expression rest form.digits nested)
    (cond-true _ (Some (expression, rest)) None (le-leb (length (spelling expression ++ rest) - length rest) LENGTH_LIMIT long))

limited_sound : (bytes : List ℕ) (expression : Expression) (rest : List ℕ) → limited_at bytes ≡ Some (expression, rest)
    → IsFirstForm expression × (bytes ≡ spelling expression ++ rest)
unfolding limited_at
limited_sound bytes expression rest h =
    then_cases (expression_at (NEST_LIMIT + 1) bytes) _ (expression, rest) (IsFirstForm expression × (bytes ≡ spelling expression ++ rest)) h (λ found r1 first second.
    if_cases _ (Some (found, r1)) None (expression, rest) (IsFirstForm expression × (bytes ≡ spelling expression ++ rest)) second
    (λ short same. same_pair found expression r1 rest (λ x r. IsFirstForm x × (bytes ≡ spelling x ++ r)) same
    (let stands = sound (NEST_LIMIT + 1) bytes found r1 first in
    let n : nest found < NEST_LIMIT + 1 = stands.nested in
    let long : length bytes - length r1 ≤ LENGTH_LIMIT = leb-true _ _ short in
    let all : length bytes ≡ length (spelling found) + length r1 = ap length stands.split ∙ length-append (spelling found) r1 in
    (record { digits = stands.digits; nested = omega arith; long = omega arith }, stands.split)))
    (λ over none. none_some (expression, rest) (IsFirstForm expression × (bytes ≡ spelling expression ++ rest)) none))

module _ (head middle tail : List ℕ) where
  abbrev text_with : Drivers → List ℕ
  text_with drivers = head ++ (spelling drivers.read_data ++ (middle ++ (spelling drivers.next ++ tail)))

  two-complete : (drivers : Drivers) → AreFirstForm drivers → two_at head middle tail (text_with drivers) ≡ Some (drivers, [])
  unfolding two_at
  two-complete drivers form =
      let last : marked tail (tt {0}) tail ≡ Some (tt {0}, []) = ap (marked tail (tt {0})) (sym (append-nil tail)) ∙ marked-front tail (tt {0}) [] in
      rw (
        marked-front head (tt {0}) (spelling drivers.read_data ++ (middle ++ (spelling drivers.next ++ tail))),
        limited-complete drivers.read_data (middle ++ (spelling drivers.next ++ tail)) form.read_data,
        marked-front middle (tt {0}) (spelling drivers.next ++ tail),
        limited-complete drivers.next tail form.next,
        last,
      ) refl

  two_sound : (bytes : List ℕ) (drivers : Drivers) → two_at head middle tail bytes ≡ Some (drivers, [])
      → AreFirstForm drivers × (bytes ≡ head ++ (spelling drivers.read_data ++ (middle ++ (spelling drivers.next ++ (tail ++ [])))))
  unfolding two_at
  two_sound bytes drivers h =
      let Q : Type 0 = AreFirstForm drivers × (bytes ≡ head ++ (spelling drivers.read_data ++ (middle ++ (spelling drivers.next ++ (tail ++ []))))) in
      then_cases (marked head (tt {0}) bytes) _ (drivers, []) Q h (λ u1 r1 first h.
      then_cases (limited_at r1) _ (drivers, []) Q h (λ read_data r2 second h.
      then_cases (marked middle (tt {0}) r2) _ (drivers, []) Q h (λ u3 r3 third h.
      then_cases (limited_at r3) _ (drivers, []) Q h (λ next r4 fourth h.
      then_cases (marked tail (tt {0}) r4) _ (drivers, []) Q h (λ u5 r5 fifth last.
      let one = marked_sound head (tt {0}) bytes u1 r1 first in
      let two = limited_sound r1 read_data r2 second in
      let three = marked_sound middle (tt {0}) r2 u3 r3 third in
      let four = limited_sound r3 next r4 fourth in
      let five = marked_sound tail (tt {0}) r4 u5 r5 fifth in
      same_pair {A = Drivers} (record { read_data = read_data; next = next }) drivers r5 [] (λ d r. AreFirstForm d × (bytes ≡ head ++ (spelling d.read_data ++ (middle ++ (spelling d.next ++ (tail ++ r)))))) last (
        record { read_data = two.0; next = four.0 },
        one.0 ∙ ap (λ t. head ++ t) (two.1 ∙ ap (λ t. spelling read_data ++ t) (three.0 ∙ ap (λ t. middle ++ t) (four.1 ∙ ap (λ t. spelling next ++ t) five.0))),
      ))))))

whole_at_sound : {A : Type 0} (found : A) (rest : List ℕ) (x : A) → whole_at found rest ≡ Some x → ◌≡◌ {A = Read A} (Some (found, rest)) (Some (x, []))
whole_at_sound found [] x h = let same : found ≡ x = cc in ap (λ a. Some (a, [])) same
whole_at_sound found (byte ∷ rest) x h = cc

whole_sound : {A : Type 0} (r : Read A) (x : A) → whole r ≡ Some x → r ≡ Some (x, [])
whole_sound None x h = cc
whole_sound (Some p) x h = whole_at_sound p.0 p.1 x h

pub drivers_sound : (bytes : List ℕ) (drivers : Drivers) → drivers_of bytes ≡ Some drivers → AreFirstForm drivers × (bytes ≡ verilog_text drivers)
unfolding drivers_of drivers_at
drivers_sound bytes drivers h =
    let two = two_sound VERILOG_HEAD.now VERILOG_MIDDLE.now VERILOG_TAIL.now bytes drivers (whole_sound (two_at VERILOG_HEAD.now VERILOG_MIDDLE.now VERILOG_TAIL.now bytes) drivers h) in
    (two.0, two.1)

pub drivers_complete : (bytes : List ℕ) (drivers : Drivers) → AreFirstForm drivers × (bytes ≡ verilog_text drivers) → drivers_of bytes ≡ Some drivers
unfolding drivers_of drivers_at
drivers_complete bytes drivers is =
    ap (λ t. whole (two_at VERILOG_HEAD.now VERILOG_MIDDLE.now VERILOG_TAIL.now t)) is.1
    ∙ ap whole (two-complete VERILOG_HEAD.now VERILOG_MIDDLE.now VERILOG_TAIL.now drivers is.0)
