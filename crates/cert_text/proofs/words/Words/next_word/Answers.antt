use Rattle.std.proofs.Common.{◌==◌, sym, ◌∙◌}
use Rattle.cert_text.proofs.CutLemmas.{next-taken, next-none}
use Rattle.cert_text.proofs.words.Words.next_word.Goals as goal

pub returns-in-Some : goal.returns-in-Some
returns-in-Some c = sym c.self.view_is ∙ rw c.if-not-self.false (next-taken (λ byte. byte == 32) c.self.inside.text.now c.in-Some.place (sym c.space.ensures.place ∙ c.in-Some.is))

pub returns-in-None : goal.returns-in-None
returns-in-None c = sym c.self.view_is ∙ rw c.if-not-self.false (next-none (λ byte. byte == 32) c.self.inside.text.now (sym c.space.ensures.place ∙ c.in-None.is))
