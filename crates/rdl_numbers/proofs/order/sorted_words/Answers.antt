use Rattle.std.proofs.Common.{◌∙◌, ℕ, List, map, subst, ap}
use Rattle.std.specs.List.Sorted.{IsPermutation}
use Rattle.rdl_words.specs.declared.word.Word.{Word}
use Rattle.rdl_numbers.specs.Orders.{address_of}
use Rattle.rdl_numbers.proofs.Orders.{addresses}
use Rattle.rdl_numbers.proofs.order.sorted_words.Goals as goal

pub returns : goal.returns
returns c = record {
  same = subst (λ (xs : List ℕ). IsPermutation xs c.sort_all.new.addresses.items)
      (c.in_ok-addresses.ensures ∙ ap (map (λ (w : Word). w.address)) c.as_slice.ensures.value ∙ addresses c.in_ok-words.words.items ∙ ap (map address_of) c.in_ok-words.ensures)
      c.sort_all.ensures.permutation;
  order = c.in_ok-sort_all.ensures.order;
}
