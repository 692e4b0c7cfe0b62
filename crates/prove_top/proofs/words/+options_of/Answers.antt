use Rattle.std.proofs.Common.{◌∙◌, sym}
use Rattle.prove_top.proofs.WordLemmas.{options-step}
use Rattle.prove_top.proofs.words.+options_of.Goals as goal

pub returns-in-Some : goal.returns-in-Some
returns-in-Some t c =
    options-step c.args.words.now c.name-item.result c.word-item.result c.args.found c.in-Some.more c.options_of.result c.in-len2-up.len_at_least c.name-item.is c.word-item.is
    (sym c.in_ok-next-in-len2-up.ensures ∙ c.in-Some.is) c.options_of.ensures
