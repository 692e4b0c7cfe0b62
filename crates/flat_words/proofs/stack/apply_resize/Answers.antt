use Rattle.std.proofs.Common.{◌≡◌, ◌++◌, ◌&&◌, ◌∙◌, sym, ap, drop}
use Rattle.bit_base.specs.Numbers.{sign_of}
use Rattle.std.proofs.Math.Seq.{drop-append_seam}
use Rattle.flat_words.proofs.Behind.{resized}
use Rattle.flat_words.proofs.stack.apply_resize.Goals as goal

pub returns : goal.returns
returns c base a is high =
    let top : c.top.result.now ≡ a = c.top.ensures ∙ ap (drop c.args.height) (c.as_slice.ensures.value ∙ is) ∙ ap (λ n. drop n (base ++ a)) (sym high) ∙ drop-append_seam base a in
    let fill : c.fill_of-fill.result ≡ (c.args.by_sign && sign_of a) = c.fill_of-fill.ensures ∙ ap (λ w. c.args.by_sign && sign_of w) top in
    c.in_ok-resize_to.ensures ∙ (rw (is, sym high, fill) (resized base a c.args.size c.args.by_sign))
