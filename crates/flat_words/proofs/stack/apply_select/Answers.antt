use Rattle.std.proofs.Common.{◌≡◌, ◌++◌, ◌∙◌, List, Bool, sym, ap, take, drop, subst}
use Rattle.std.proofs.Math.Seq.{drop-append_seam, take-append_seam}
use Rattle.flat_design.specs.Bits.{bit_at, bits_from, offset_of}
use Rattle.flat_words.specs.Tables.{in_table}
use Rattle.flat_words.specs.Starts.{AreAlike}
use Rattle.flat_words.proofs.Selects.{select_alike}
use Rattle.flat_words.proofs.stack.apply_select.Goals as goal

pub returns : goal.returns
returns c base index is high =
    let top : c.top.result.now ≡ index = c.top.ensures ∙ ap (drop c.args.height) (c.as_slice.ensures.value ∙ is) ∙ ap (λ n. drop n (base ++ index)) (sym high) ∙ drop-append_seam base index in
    let below : c.truncate.new.self.items ≡ base = c.truncate.ensures.items ∙ ap (take c.args.height) is ∙ ap (λ n. take n (base ++ index)) (sym high) ∙ take-append_seam base index in
    let alike : AreAlike c.args.net.now (offset_of c.args.signed index c.args.net.now.lsb) (c.in_ok-start.start.plus, c.in_ok-start.start.minus) =
    subst (λ (w : List Bool). AreAlike c.args.net.now (offset_of c.args.signed w c.args.net.now.lsb) (c.in_ok-start.start.plus, c.in_ok-start.start.minus)) top c.in_ok-start.ensures in
    c.in_ok-push_select.ensures
    ∙ ap (λ (xs : List Bool). xs ++ bits_from (bit_at (in_table c.args.table.now) c.args.net.now (c.in_ok-start.start.plus, c.in_ok-start.start.minus)) 0 c.args.width) below
    ∙ ap (λ (ys : List Bool). base ++ ys) (select_alike (in_table c.args.table.now) c.args.net.now (offset_of c.args.signed index c.args.net.now.lsb) (c.in_ok-start.start.plus, c.in_ok-start.start.minus) c.args.width alike c.ranges.width.fits)
