-- What the text of a refusal tells: two refusals with one text are the same.
use Rattle.std.proofs.Common.{◌≡◌, ℕ, ◌^◌, ◌<◌, ◌==◌, true, false, ◌&&◌, if◌then◌else◌, List, [], ◌∷◌, ◌++◌, slice_index_or, codes, Option, Some, None, refl, sym, ◌∙◌, ap, subst, append-nil}
use Rattle.std.proofs.lemmas.Fmt.{decimal_injective}
use Rattle.std.proofs.lemmas.List.{append_cancel_left, append_cancel_right}
use Rattle.std.specs.Fmt.{decimal}
use Rattle.rdl_tree.specs.declared.fault.RdlCode.TheVariants as rdl
use Rattle.trace_replay.specs.declared.fault.TraceCode.{TraceCode}
use Rattle.trace_replay.specs.declared.fault.TraceCode.TheVariants as code
use Rattle.prove_top.specs.declared.report.Refusal.{Refusal}
use Rattle.prove_top.specs.declared.report.Refusal.TheVariants as refusal
use Rattle.prove_top.specs.declared.report.Report.{Report}
use Rattle.prove_top.specs.declared.report.Report.TheVariants.{Usage, Refused, WrongTrace, WrongDescription, Described, Refuted, Simulated, Agrees, Differs, Fault}
use Rattle.prove_top.specs.Report.{text_of, refusal_head, refusal_tail, code_head, code_tail}

-- the refusal that a text begins with, by its fifth, ninth and eleventh byte
abbrev at : List ℕ → ℕ → ℕ
at text place = slice_index_or text place 0

abbrev refusal_at : ℕ → ℕ → ℕ → Option Refusal
refusal_at fifth ninth eleventh =
    if fifth == 115 then
    (if ninth == 49 then Some refusal.RdlSize
    else if ninth == 50 then Some refusal.VlogSize
    else if ninth == 51 then Some refusal.PortSize
    else if ninth == 55 then Some refusal.NoFile
    else if ninth == 56 then Some refusal.NotYet
    else if eleventh == 52 then Some refusal.TraceSize
    else None)
    else None

abbrev code_at : ℕ → ℕ → ℕ → Option TraceCode
code_at fifth ninth eleventh =
    if fifth == 115 && ninth == 53 then
    (if eleventh == 49 then Some code.TraceLine
    else if eleventh == 50 then Some code.TraceName
    else if eleventh == 51 then Some code.TraceIllegal
    else None)
    else None

abbrev refusal_in : List ℕ → Option Refusal
refusal_in text = refusal_at (at text 4) (at text 8) (at text 10)

abbrev code_in : List ℕ → Option TraceCode
code_in text = code_at (at text 4) (at text 8) (at text 10)

-- the same of a report
abbrev refusal_of : Report → Option Refusal
refusal_of Usage = None
refusal_of (Refused why file) = Some why
refusal_of (WrongTrace code.TraceLine line file) = None
refusal_of (WrongTrace code.TraceName line file) = None
refusal_of (WrongTrace code.TraceIllegal line file) = None
refusal_of (WrongTrace code.TraceSize line file) = Some refusal.TraceSize
refusal_of (Refuted edge what trace to) = None
refusal_of Simulated = None
refusal_of (WrongDescription why place file) = Some refusal.RdlSize
refusal_of (Described map_text) = None
refusal_of (Agrees edges) = None
refusal_of (Differs edge what) = None
refusal_of (Fault store file) = None

abbrev code_of : Report → Option TraceCode
code_of Usage = None
code_of (Refused why file) = None
code_of (WrongTrace code.TraceLine line file) = Some code.TraceLine
code_of (WrongTrace code.TraceName line file) = Some code.TraceName
code_of (WrongTrace code.TraceIllegal line file) = Some code.TraceIllegal
code_of (WrongTrace code.TraceSize line file) = None
code_of (Refuted edge what trace to) = None
code_of Simulated = None
code_of (WrongDescription why place file) = None
code_of (Described map_text) = None
code_of (Agrees edges) = None
code_of (Differs edge what) = None
code_of (Fault store file) = None

-- no trace is refused for its size under a line, and the lines of a map don't begin like a refusal
abbrev pub IsPlain : Report → Type 0
IsPlain Usage = Unit {0}
IsPlain (Refused why file) = Unit {0}
IsPlain (WrongTrace code.TraceLine line file) = Unit {0}
IsPlain (WrongTrace code.TraceName line file) = Unit {0}
IsPlain (WrongTrace code.TraceIllegal line file) = Unit {0}
IsPlain (WrongTrace code.TraceSize line file) = ⊥
IsPlain (Refuted edge what trace to) = Unit {0}
IsPlain Simulated = Unit {0}
IsPlain (WrongDescription why place file) = Unit {0}
IsPlain (Described map_text) = (at map_text 4 == 115) ≡ false
IsPlain (Agrees edges) = Unit {0}
IsPlain (Differs edge what) = Unit {0}
IsPlain (Fault store file) = Unit {0}

-- a report that refuses no description
abbrev pub IsNoDescription : Report → Type 0
IsNoDescription (WrongDescription why place file) = ⊥
IsNoDescription (Described map_text) = Unit {0}
IsNoDescription Usage = Unit {0}
IsNoDescription (Refused why file) = Unit {0}
IsNoDescription (WrongTrace why line file) = Unit {0}
IsNoDescription (Refuted edge what trace to) = Unit {0}
IsNoDescription Simulated = Unit {0}
IsNoDescription (Agrees edges) = Unit {0}
IsNoDescription (Differs edge what) = Unit {0}
IsNoDescription (Fault store file) = Unit {0}

no-refusal : (fifth ninth eleventh : ℕ) → (fifth == 115) ≡ false → refusal_at fifth ninth eleventh ≡ None
no-refusal fifth ninth eleventh other = ap (λ b. if b then (if ninth == 49 then Some refusal.RdlSize else if ninth == 50 then Some refusal.VlogSize else if ninth == 51 then Some refusal.PortSize else if ninth == 55 then Some refusal.NoFile else if ninth == 56 then Some refusal.NotYet else if eleventh == 52 then Some refusal.TraceSize else None) else None) other

no-code : (fifth ninth eleventh : ℕ) → (fifth == 115) ≡ false → code_at fifth ninth eleventh ≡ None
no-code fifth ninth eleventh other = ap (λ b. if b && ninth == 53 then (if eleventh == 49 then Some code.TraceLine else if eleventh == 50 then Some code.TraceName else if eleventh == 51 then Some code.TraceIllegal else None) else None) other

refusal-read : (report : Report) → IsPlain report → refusal_in (text_of report) ≡ refusal_of report
unfolding text_of
refusal-read Usage plain = refl
refusal-read (Refused refusal.RdlSize file) plain = refl
refusal-read (Refused refusal.VlogSize file) plain = refl
refusal-read (Refused refusal.PortSize file) plain = refl
refusal-read (Refused refusal.TraceSize file) plain = refl
refusal-read (Refused refusal.NoFile file) plain = refl
refusal-read (Refused refusal.NotYet file) plain = refl
refusal-read (WrongTrace code.TraceLine line file) plain = refl
refusal-read (WrongTrace code.TraceName line file) plain = refl
refusal-read (WrongTrace code.TraceIllegal line file) plain = refl
refusal-read (WrongTrace code.TraceSize line file) plain = refl
refusal-read (Refuted edge what trace to) plain = refl
refusal-read Simulated plain = refl
refusal-read (WrongDescription rdl.RdlByte place file) plain = refl
refusal-read (WrongDescription rdl.RdlSyntax place file) plain = refl
refusal-read (WrongDescription rdl.RdlDeep place file) plain = refl
refusal-read (WrongDescription rdl.RdlName place file) plain = refl
refusal-read (WrongDescription rdl.RdlProperty place file) plain = refl
refusal-read (WrongDescription rdl.RdlValue place file) plain = refl
refusal-read (WrongDescription rdl.RdlPlace place file) plain = refl
refusal-read (WrongDescription rdl.RdlSize place file) plain = refl
refusal-read (WrongDescription rdl.NoReset place file) plain = refl
refusal-read (Described map_text) plain =
    ap refusal_in (append-nil (map_text ++ []) ∙ append-nil map_text) ∙ no-refusal (at map_text 4) (at map_text 8) (at map_text 10) plain
refusal-read (Agrees edges) plain = refl
refusal-read (Differs edge what) plain = refl
refusal-read (Fault true file) plain = refl
refusal-read (Fault false file) plain = refl

code-read : (report : Report) → IsPlain report → code_in (text_of report) ≡ code_of report
unfolding text_of
code-read Usage plain = refl
code-read (Refused refusal.RdlSize file) plain = refl
code-read (Refused refusal.VlogSize file) plain = refl
code-read (Refused refusal.PortSize file) plain = refl
code-read (Refused refusal.TraceSize file) plain = refl
code-read (Refused refusal.NoFile file) plain = refl
code-read (Refused refusal.NotYet file) plain = refl
code-read (WrongTrace code.TraceLine line file) plain = refl
code-read (WrongTrace code.TraceName line file) plain = refl
code-read (WrongTrace code.TraceIllegal line file) plain = refl
code-read (WrongTrace code.TraceSize line file) plain = refl
code-read (Refuted edge what trace to) plain = refl
code-read Simulated plain = refl
code-read (WrongDescription rdl.RdlByte place file) plain = refl
code-read (WrongDescription rdl.RdlSyntax place file) plain = refl
code-read (WrongDescription rdl.RdlDeep place file) plain = refl
code-read (WrongDescription rdl.RdlName place file) plain = refl
code-read (WrongDescription rdl.RdlProperty place file) plain = refl
code-read (WrongDescription rdl.RdlValue place file) plain = refl
code-read (WrongDescription rdl.RdlPlace place file) plain = refl
code-read (WrongDescription rdl.RdlSize place file) plain = refl
code-read (WrongDescription rdl.NoReset place file) plain = refl
code-read (Described map_text) plain =
    ap code_in (append-nil (map_text ++ []) ∙ append-nil map_text) ∙ no-code (at map_text 4) (at map_text 8) (at map_text 10) plain
code-read (Agrees edges) plain = refl
code-read (Differs edge what) plain = refl
code-read (Fault true file) plain = refl
code-read (Fault false file) plain = refl

-- the file of a refusal
file-is : (why : Refusal) (a b : List ℕ) → text_of (Refused why a) ≡ text_of (Refused why b) → a ≡ b
unfolding text_of
file-is why a b same =
    let whole : (refusal_head why ++ a ++ refusal_tail why) ++ 10 ∷ [] ≡ (refusal_head why ++ b ++ refusal_tail why) ++ 10 ∷ [] =
    sym (append-nil ((refusal_head why ++ a ++ refusal_tail why) ++ 10 ∷ [])) ∙ same ∙ append-nil ((refusal_head why ++ b ++ refusal_tail why) ++ 10 ∷ []) in
    append_cancel_left (refusal_head why) a b
    (append_cancel_right (refusal_head why ++ a) (refusal_head why ++ b) (refusal_tail why)
    (append_cancel_right ((refusal_head why ++ a) ++ refusal_tail why) ((refusal_head why ++ b) ++ refusal_tail why) (10 ∷ []) whole))

refused-as : (why other : Refusal) (file name : List ℕ) → ◌≡◌ {A = Option Refusal} (Some other) (Some why) → text_of (Refused other name) ≡ text_of (Refused why file) → Refused other name ≡ Refused why file
refused-as why other file name is same =
    let one : other ≡ why = cc in
    let P : Refusal → Type 0 = λ w. text_of (Refused w name) ≡ text_of (Refused why file) in
    ap (λ w. Refused w name) one ∙ ap (Refused why) (file-is why name file (subst P one same))

refused-when : (report : Report) (why : Refusal) (file : List ℕ) → IsPlain report → (why ≡ refusal.RdlSize → IsNoDescription report) → text_of report ≡ text_of (Refused why file) → refusal_of report ≡ Some why → report ≡ Refused why file
refused-when Usage why file plain apart same is = cc
refused-when (Refused other name) why file plain apart same is = refused-as why other file name is same
refused-when (WrongTrace code.TraceLine line name) why file plain apart same is = cc
refused-when (WrongTrace code.TraceName line name) why file plain apart same is = cc
refused-when (WrongTrace code.TraceIllegal line name) why file plain apart same is = cc
refused-when (WrongTrace code.TraceSize line name) why file plain apart same is = absurd plain
refused-when (Refuted edge what trace to) why file plain apart same is = cc
refused-when Simulated why file plain apart same is = cc
refused-when (WrongDescription how place name) why file plain apart same is = let one : why ≡ refusal.RdlSize = cc in absurd (apart one)
refused-when (Described map_text) why file plain apart same is = cc
refused-when (Agrees edges) why file plain apart same is = cc
refused-when (Differs edge what) why file plain apart same is = cc
refused-when (Fault store name) why file plain apart same is = cc

pub refused-text : (report : Report) (why : Refusal) (file : List ℕ) → IsPlain report → (why ≡ refusal.RdlSize → IsNoDescription report) → text_of report ≡ text_of (Refused why file) → report ≡ Refused why file
refused-text report why file plain apart same = refused-when report why file plain apart same (sym (refusal-read report plain) ∙ ap refusal_in same ∙ refusal-read (Refused why file) tt)

-- the line of a refused trace of this name
pub line-is : (why : TraceCode) (file : List ℕ) (m n : ℕ) → m < 2 ^ 64 → n < 2 ^ 64 → text_of (WrongTrace why m file) ≡ text_of (WrongTrace why n file) → m ≡ n
unfolding text_of
line-is why file m n small few same =
    let place : ℕ → List ℕ = λ line. file ++ codes ":" ++ decimal line in
    let whole : (code_head why ++ place m ++ code_tail why) ++ 10 ∷ [] ≡ (code_head why ++ place n ++ code_tail why) ++ 10 ∷ [] =
    sym (append-nil ((code_head why ++ place m ++ code_tail why) ++ 10 ∷ [])) ∙ same ∙ append-nil ((code_head why ++ place n ++ code_tail why) ++ 10 ∷ []) in
    decimal_injective m n small few
    (append_cancel_left (file ++ codes ":") (decimal m) (decimal n)
    (append_cancel_left (code_head why) (place m) (place n)
    (append_cancel_right (code_head why ++ place m) (code_head why ++ place n) (code_tail why)
    (append_cancel_right ((code_head why ++ place m) ++ code_tail why) ((code_head why ++ place n) ++ code_tail why) (10 ∷ []) whole))))

code-when : (report : Report) (why : TraceCode) (file : List ℕ) (n : ℕ) → (why ≡ code.TraceSize → ⊥) → text_of report ≡ text_of (WrongTrace why n file) → code_of report ≡ Some why
    → (m : ℕ) × (name : List ℕ) × (report ≡ WrongTrace why m name)
code-when Usage why file n other same is = cc
code-when (Refused how name) why file n other same is = cc
code-when (WrongTrace code.TraceLine line name) why file n other same is = let one : code.TraceLine ≡ why = cc in (line, name, ap (λ w. WrongTrace w line name) one)
code-when (WrongTrace code.TraceName line name) why file n other same is = let one : code.TraceName ≡ why = cc in (line, name, ap (λ w. WrongTrace w line name) one)
code-when (WrongTrace code.TraceIllegal line name) why file n other same is = let one : code.TraceIllegal ≡ why = cc in (line, name, ap (λ w. WrongTrace w line name) one)
code-when (WrongTrace code.TraceSize line name) why file n other same is = cc
code-when (Refuted edge what trace to) why file n other same is = cc
code-when Simulated why file n other same is = cc
code-when (WrongDescription how place name) why file n other same is = cc
code-when (Described map_text) why file n other same is = cc
code-when (Agrees edges) why file n other same is = cc
code-when (Differs edge what) why file n other same is = cc
code-when (Fault store name) why file n other same is = cc

own-code : (why : TraceCode) (n : ℕ) (file : List ℕ) → (why ≡ code.TraceSize → ⊥) → code_of (WrongTrace why n file) ≡ Some why
own-code code.TraceLine n file other = refl
own-code code.TraceName n file other = refl
own-code code.TraceIllegal n file other = refl
own-code code.TraceSize n file other = absurd (other refl)

pub code-text : (report : Report) (why : TraceCode) (file : List ℕ) (n : ℕ) → IsPlain report → IsPlain (WrongTrace why n file) → (why ≡ code.TraceSize → ⊥) → text_of report ≡ text_of (WrongTrace why n file)
    → (m : ℕ) × (name : List ℕ) × (report ≡ WrongTrace why m name)
code-text report why file n plain own other same = code-when report why file n other same (sym (code-read report plain) ∙ ap code_in same ∙ code-read (WrongTrace why n file) own ∙ own-code why n file other)
