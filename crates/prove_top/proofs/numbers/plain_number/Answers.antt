use Rattle.std.proofs.Common.{◌≡◌, sym, ◌∙◌, ap, arith}
use Rattle.std.proofs.lemmas.Fmt.{IsAscii-decimal, parse-decimal}
use Rattle.std.proofs.lemmas.Bool.{both_ways}
use Rattle.std.proofs.lemmas.Slice.Eq.{bytes_eq-Decides}
use Rattle.std.proofs.lemmas.Str.{IsUtf8-from_ascii}
use Rattle.std.specs.Fmt.{decimal}
use Rattle.prove_top.proofs.Plain.{plain_value-none, plain_value-decimal}
use Rattle.prove_top.proofs.numbers.plain_number.Goals as goal

pub returns-in_default : goal.returns-in_default
returns-in_default c = sym (plain_value-none c.args.bytes.now (λ n small is. c.in_default.ensures.cases.0 (rw is (IsUtf8-from_ascii (decimal n) (IsAscii-decimal n small)))))

pub returns-in_default-parse : goal.returns-in_default-parse
returns-in_default-parse c = sym (plain_value-none c.args.bytes.now
    (λ n small is. c.in_default-parse.not-Ok n
    (parse-decimal 64 n c.in-Ok.text.now c.parse.result small small (c.in-Ok.ensures.cases.0 ∙ is) c.parse.ensures.value.0)))

pub returns-then-eq : goal.returns-then-eq
returns-then-eq c =
    sym (plain_value-decimal c.in-Ok-parse.number c.args.bytes.now (omega arith)
    (sym ((bytes_eq-Decides _ _).0 (sym c.eq.ensures ∙ c.if-eq.true)) ∙ c.as_bytes.ensures.value ∙ c.in_ok-plain.ensures.ok))

pub returns : goal.returns
returns c = sym (plain_value-none c.args.bytes.now
    (λ n small is.
    let parsed = parse-decimal 64 n c.in-Ok.text.now c.parse.result small small (c.in-Ok.ensures.cases.0 ∙ is) c.parse.ensures.value.0 in
    let same : c.in-Ok-parse.number ≡ n = cc in
    both_ways _ (sym c.eq.ensures ∙ c.if-eq.false) ((bytes_eq-Decides c.as_bytes.result.now c.args.bytes.now).1 (c.as_bytes.ensures.value ∙ c.in_ok-plain.ensures.ok ∙ ap decimal same ∙ sym is))))
