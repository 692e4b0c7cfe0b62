use Rattle.std.proofs.Common.{ap, map, ◌∙◌}
use Rattle.rdl_words.specs.Words.{spot, candidates, spots_of}
use Rattle.rdl_words.proofs.Firsts.{found_first, found_none}
use Rattle.rdl_words.proofs.clash.first_clash.Goals as goal

pub returns-clause-first : goal.returns-clause-first
returns-clause-first c =
    found_first (spots_of c.args.registers.now) _ _ _ c.as_slice-2.ensures.value c.first_of.ensures.first (record {
      words = c.in_ok-words.words.items;
      sorted = c.sort_words.new.words.items;
      given = c.in_ok-words.ensures;
      moved = c.sort_words.ensures.permutation;
      order = c.in_ok-sort_words.ensures.order;
      noted = c.in_ok-places.ensures ∙ ap (λ ws. candidates (map spot ws)) c.as_slice.ensures.value;
    })

pub returns-clause-none : goal.returns-clause-none
returns-clause-none c =
    found_none (spots_of c.args.registers.now) _ _ _ c.as_slice-2.ensures.value c.first_of.ensures.none (record {
      words = c.in_ok-words.words.items;
      sorted = c.sort_words.new.words.items;
      given = c.in_ok-words.ensures;
      moved = c.sort_words.ensures.permutation;
      order = c.in_ok-sort_words.ensures.order;
      noted = c.in_ok-places.ensures ∙ ap (λ ws. candidates (map spot ws)) c.as_slice.ensures.value;
    })
