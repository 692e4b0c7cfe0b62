use Rattle.std.proofs.Common.{◌≡◌, ◌+◌, ◌-◌, ◌<◌, ◌≤◌, ◌^◌, ◌++◌, ◌∷◌, [], ℕ, List, length, take, ap, ◌∙◌, arith, refl}
use Rattle.std.proofs.Math.Path.{fun_ext}
use Rattle.std.specs.Vec.{with_items}
use Rattle.std.proofs.lemmas.List.{take-append-le, with_items_is, length_push}
use Rattle.lemma_checker.specs.declared.literal.Literal.{Literal}
use Rattle.lemma_checker.specs.Clauses.{set_of}
use Rattle.watch_lists.specs.declared.watches.Watches.{Watches}
use Rattle.watch_lists.specs.Watching.{lists_of, AreWatches, AreShort}
use Rattle.watch_lists.specs.Building.{with_first, with_both}
use Rattle.watch_lists.specs.Watches.{AreSound, ArePair}
use Rattle.watch_lists.proofs.WatchLists.{length_lists}
use Rattle.watch_lists.proofs.BuildLemmas.{IsAdded, IsLonger, longer, watches_short, watches_long, short_more, short_same, added_holds, added_fits, pair_guarded, with_first_has}
use Rattle.watch_lists.proofs.watches.Watches.add.Goals as goal

pub returns-in_ok-add_short-clause-sound : goal.returns-in_ok-add_short-clause-sound
returns-in_ok-add_short-clause-sound c =
    let w : Watches = c.args.self.now in
    let d : List Literal = c.args.clause.now in
    let v : Watches = record { literals = c.add_short.new.literals; starts = c.add_short.new.starts; lists = c.args.self.now.lists; short = c.add_short.new.short; looked = c.args.self.now.looked } in
    let n : ℕ = c.len-count.result - 1 in
    let long : c.len-count.result ≡ length w.starts.items = c.len-count.ensures ∙ w.starts.ok.0 in
    let count : n + 1 ≡ length w.starts.items = omega (arith, long, c.requires.sound.watches.table.some) in
    let few : length w.starts.items + 1 < 2 ^ 32 = omega (arith, long, c.if-count-ge4294967295.false) in
    let g0 : IsLonger w.literals.items (w.literals.items ++ d) w.starts.items (w.starts.items ++ length (w.literals.items ++ d) ∷ []) n d = longer w.literals.items d w.starts.items n c.requires.sound.watches.table few count in
    let at_starts : v.starts.items ≡ w.starts.items ++ length (w.literals.items ++ d) ∷ [] = c.in_ok-add_short.ensures.starts ∙ ap (λ (q : List Literal). w.starts.items ++ length q ∷ []) c.in_ok-add_short.ensures.literals in
    let g : IsLonger w.literals.items v.literals.items w.starts.items v.starts.items n d = rw (c.in_ok-add_short.ensures.literals, at_starts) g0 in
    let brief : length d ≤ 1 = omega (arith, c.if-clause-lt2.true) in
    let watches : AreWatches v.literals.items v.starts.items (lists_of v.lists.items) = watches_short w.literals.items v.literals.items w.starts.items v.starts.items (lists_of w.lists.items) n d g c.requires.sound.watches brief c.requires.over.low (λ l h. omega (arith, c.requires.over.high l h, length_lists w.lists.items)) in
    let short : AreShort v.literals.items v.starts.items v.short.items = rw c.in_ok-add_short.ensures.short (short_more w.literals.items v.literals.items w.starts.items v.starts.items w.short.items n d g brief c.requires.sound.short) in
    let sound : AreSound v = record { watches = watches; short = short; looked = omega (arith, c.requires.sound.looked, ap length c.in_ok-add_short.ensures.short, length_push w.short.items n) } in
    let added : IsAdded w v n d d = record { longer = g; same = refl; sound = sound; size = refl; looked = refl; front = ap (take w.looked) c.in_ok-add_short.ensures.short ∙ take-append-le w.looked w.short.items (n ∷ []) c.requires.sound.looked } in
    sound

pub returns-in_ok-add_short-clause-holds : goal.returns-in_ok-add_short-clause-holds
returns-in_ok-add_short-clause-holds c =
    let w : Watches = c.args.self.now in
    let d : List Literal = c.args.clause.now in
    let v : Watches = record { literals = c.add_short.new.literals; starts = c.add_short.new.starts; lists = c.args.self.now.lists; short = c.add_short.new.short; looked = c.args.self.now.looked } in
    let n : ℕ = c.len-count.result - 1 in
    let long : c.len-count.result ≡ length w.starts.items = c.len-count.ensures ∙ w.starts.ok.0 in
    let count : n + 1 ≡ length w.starts.items = omega (arith, long, c.requires.sound.watches.table.some) in
    let few : length w.starts.items + 1 < 2 ^ 32 = omega (arith, long, c.if-count-ge4294967295.false) in
    let g0 : IsLonger w.literals.items (w.literals.items ++ d) w.starts.items (w.starts.items ++ length (w.literals.items ++ d) ∷ []) n d = longer w.literals.items d w.starts.items n c.requires.sound.watches.table few count in
    let at_starts : v.starts.items ≡ w.starts.items ++ length (w.literals.items ++ d) ∷ [] = c.in_ok-add_short.ensures.starts ∙ ap (λ (q : List Literal). w.starts.items ++ length q ∷ []) c.in_ok-add_short.ensures.literals in
    let g : IsLonger w.literals.items v.literals.items w.starts.items v.starts.items n d = rw (c.in_ok-add_short.ensures.literals, at_starts) g0 in
    let brief : length d ≤ 1 = omega (arith, c.if-clause-lt2.true) in
    let watches : AreWatches v.literals.items v.starts.items (lists_of v.lists.items) = watches_short w.literals.items v.literals.items w.starts.items v.starts.items (lists_of w.lists.items) n d g c.requires.sound.watches brief c.requires.over.low (λ l h. omega (arith, c.requires.over.high l h, length_lists w.lists.items)) in
    let short : AreShort v.literals.items v.starts.items v.short.items = rw c.in_ok-add_short.ensures.short (short_more w.literals.items v.literals.items w.starts.items v.starts.items w.short.items n d g brief c.requires.sound.short) in
    let sound : AreSound v = record { watches = watches; short = short; looked = omega (arith, c.requires.sound.looked, ap length c.in_ok-add_short.ensures.short, length_push w.short.items n) } in
    let added : IsAdded w v n d d = record { longer = g; same = refl; sound = sound; size = refl; looked = refl; front = ap (take w.looked) c.in_ok-add_short.ensures.short ∙ take-append-le w.looked w.short.items (n ∷ []) c.requires.sound.looked } in
    λ vars clauses h. added_holds w v n d d vars clauses added h

pub returns-in_ok-add_short-clause-fits : goal.returns-in_ok-add_short-clause-fits
returns-in_ok-add_short-clause-fits c =
    let w : Watches = c.args.self.now in
    let d : List Literal = c.args.clause.now in
    let v : Watches = record { literals = c.add_short.new.literals; starts = c.add_short.new.starts; lists = c.args.self.now.lists; short = c.add_short.new.short; looked = c.args.self.now.looked } in
    let n : ℕ = c.len-count.result - 1 in
    let long : c.len-count.result ≡ length w.starts.items = c.len-count.ensures ∙ w.starts.ok.0 in
    let count : n + 1 ≡ length w.starts.items = omega (arith, long, c.requires.sound.watches.table.some) in
    let few : length w.starts.items + 1 < 2 ^ 32 = omega (arith, long, c.if-count-ge4294967295.false) in
    let g0 : IsLonger w.literals.items (w.literals.items ++ d) w.starts.items (w.starts.items ++ length (w.literals.items ++ d) ∷ []) n d = longer w.literals.items d w.starts.items n c.requires.sound.watches.table few count in
    let at_starts : v.starts.items ≡ w.starts.items ++ length (w.literals.items ++ d) ∷ [] = c.in_ok-add_short.ensures.starts ∙ ap (λ (q : List Literal). w.starts.items ++ length q ∷ []) c.in_ok-add_short.ensures.literals in
    let g : IsLonger w.literals.items v.literals.items w.starts.items v.starts.items n d = rw (c.in_ok-add_short.ensures.literals, at_starts) g0 in
    let brief : length d ≤ 1 = omega (arith, c.if-clause-lt2.true) in
    let watches : AreWatches v.literals.items v.starts.items (lists_of v.lists.items) = watches_short w.literals.items v.literals.items w.starts.items v.starts.items (lists_of w.lists.items) n d g c.requires.sound.watches brief c.requires.over.low (λ l h. omega (arith, c.requires.over.high l h, length_lists w.lists.items)) in
    let short : AreShort v.literals.items v.starts.items v.short.items = rw c.in_ok-add_short.ensures.short (short_more w.literals.items v.literals.items w.starts.items v.starts.items w.short.items n d g brief c.requires.sound.short) in
    let sound : AreSound v = record { watches = watches; short = short; looked = omega (arith, c.requires.sound.looked, ap length c.in_ok-add_short.ensures.short, length_push w.short.items n) } in
    let added : IsAdded w v n d d = record { longer = g; same = refl; sound = sound; size = refl; looked = refl; front = ap (take w.looked) c.in_ok-add_short.ensures.short ∙ take-append-le w.looked w.short.items (n ∷ []) c.requires.sound.looked } in
    λ t f pair. added_fits w v n d d t added f (λ x two h. absurd (omega arith))

pub returns-in_ok-add_long-clause-sound : goal.returns-in_ok-add_long-clause-sound
returns-in_ok-add_long-clause-sound c =
    let w : Watches = c.args.self.now in
    let d : List Literal = with_first c.args.clause.now c.args.first c.args.second in
    let v : Watches = record { literals = c.add_long.new.literals; starts = c.add_long.new.starts; lists = with_items c.args.self.now.lists c.add_long.new.lists; short = c.args.self.now.short; looked = c.args.self.now.looked } in
    let n : ℕ = c.len-count.result - 1 in
    let long : c.len-count.result ≡ length w.starts.items = c.len-count.ensures ∙ w.starts.ok.0 in
    let count : n + 1 ≡ length w.starts.items = omega (arith, long, c.requires.sound.watches.table.some) in
    let few : length w.starts.items + 1 < 2 ^ 32 = omega (arith, long, c.if-count-ge4294967295.false) in
    let g0 : IsLonger w.literals.items (w.literals.items ++ d) w.starts.items (w.starts.items ++ length (w.literals.items ++ d) ∷ []) n d = longer w.literals.items d w.starts.items n c.requires.sound.watches.table few count in
    let at_starts : v.starts.items ≡ w.starts.items ++ length (w.literals.items ++ d) ∷ [] = c.in_ok-add_long.ensures.starts ∙ ap (λ (q : List Literal). w.starts.items ++ length q ∷ []) c.in_ok-add_long.ensures.literals in
    let g : IsLonger w.literals.items v.literals.items w.starts.items v.starts.items n d = rw (c.in_ok-add_long.ensures.literals, at_starts) g0 in
    let two : 2 ≤ length c.args.clause.now = omega (arith, c.if-clause-lt2.false) in
    let pair : ArePair c.args.clause.now c.args.first.0 c.args.second.0 = c.requires.pair two in
    let at_lists : v.lists.items ≡ c.add_long.new.lists = with_items_is w.lists c.add_long.new.lists (c.add_long.auto.lists ∙ c.as_mut_slice.ensures.len) in
    let lists : lists_of v.lists.items ≡ with_both (lists_of w.lists.items) c.args.first.0 c.args.second.0 (record { clause = n; blocker = c.args.second; start = length w.literals.items; end = length v.literals.items }) (record { clause = n; blocker = c.args.first; start = length w.literals.items; end = length v.literals.items }) = ap lists_of at_lists ∙ (rw c.as_mut_slice.ensures.value at c.in_ok-add_long.ensures.lists) in
    let watches : AreWatches v.literals.items v.starts.items (lists_of v.lists.items) = rw lists (watches_long w.literals.items v.literals.items w.starts.items v.starts.items (lists_of w.lists.items) n c.args.clause.now c.args.first c.args.second (record { clause = n; blocker = c.args.second; start = length w.literals.items; end = length v.literals.items }) (record { clause = n; blocker = c.args.first; start = length w.literals.items; end = length v.literals.items }) g c.requires.sound.watches pair.first_in pair.second_in pair.different c.requires.over.low (λ l h. omega (arith, c.requires.over.high l h, length_lists w.lists.items)) refl refl refl refl refl refl refl refl) in
    let short : AreShort v.literals.items v.starts.items v.short.items = short_same w.literals.items v.literals.items w.starts.items v.starts.items w.short.items n d g (omega arith) c.requires.sound.short in
    let sound : AreSound v = record { watches = watches; short = short; looked = c.requires.sound.looked } in
    let same : set_of d ≡ set_of c.args.clause.now = fun_ext (with_first_has c.args.clause.now c.args.first c.args.second pair.first_in pair.second_in) in
    let added : IsAdded w v n c.args.clause.now d = record { longer = g; same = same; sound = sound; size = ap length at_lists ∙ (c.add_long.auto.lists ∙ ap length c.as_mut_slice.ensures.value); looked = refl; front = refl } in
    sound

pub returns-in_ok-add_long-clause-holds : goal.returns-in_ok-add_long-clause-holds
returns-in_ok-add_long-clause-holds c =
    let w : Watches = c.args.self.now in
    let d : List Literal = with_first c.args.clause.now c.args.first c.args.second in
    let v : Watches = record { literals = c.add_long.new.literals; starts = c.add_long.new.starts; lists = with_items c.args.self.now.lists c.add_long.new.lists; short = c.args.self.now.short; looked = c.args.self.now.looked } in
    let n : ℕ = c.len-count.result - 1 in
    let long : c.len-count.result ≡ length w.starts.items = c.len-count.ensures ∙ w.starts.ok.0 in
    let count : n + 1 ≡ length w.starts.items = omega (arith, long, c.requires.sound.watches.table.some) in
    let few : length w.starts.items + 1 < 2 ^ 32 = omega (arith, long, c.if-count-ge4294967295.false) in
    let g0 : IsLonger w.literals.items (w.literals.items ++ d) w.starts.items (w.starts.items ++ length (w.literals.items ++ d) ∷ []) n d = longer w.literals.items d w.starts.items n c.requires.sound.watches.table few count in
    let at_starts : v.starts.items ≡ w.starts.items ++ length (w.literals.items ++ d) ∷ [] = c.in_ok-add_long.ensures.starts ∙ ap (λ (q : List Literal). w.starts.items ++ length q ∷ []) c.in_ok-add_long.ensures.literals in
    let g : IsLonger w.literals.items v.literals.items w.starts.items v.starts.items n d = rw (c.in_ok-add_long.ensures.literals, at_starts) g0 in
    let two : 2 ≤ length c.args.clause.now = omega (arith, c.if-clause-lt2.false) in
    let pair : ArePair c.args.clause.now c.args.first.0 c.args.second.0 = c.requires.pair two in
    let at_lists : v.lists.items ≡ c.add_long.new.lists = with_items_is w.lists c.add_long.new.lists (c.add_long.auto.lists ∙ c.as_mut_slice.ensures.len) in
    let lists : lists_of v.lists.items ≡ with_both (lists_of w.lists.items) c.args.first.0 c.args.second.0 (record { clause = n; blocker = c.args.second; start = length w.literals.items; end = length v.literals.items }) (record { clause = n; blocker = c.args.first; start = length w.literals.items; end = length v.literals.items }) = ap lists_of at_lists ∙ (rw c.as_mut_slice.ensures.value at c.in_ok-add_long.ensures.lists) in
    let watches : AreWatches v.literals.items v.starts.items (lists_of v.lists.items) = rw lists (watches_long w.literals.items v.literals.items w.starts.items v.starts.items (lists_of w.lists.items) n c.args.clause.now c.args.first c.args.second (record { clause = n; blocker = c.args.second; start = length w.literals.items; end = length v.literals.items }) (record { clause = n; blocker = c.args.first; start = length w.literals.items; end = length v.literals.items }) g c.requires.sound.watches pair.first_in pair.second_in pair.different c.requires.over.low (λ l h. omega (arith, c.requires.over.high l h, length_lists w.lists.items)) refl refl refl refl refl refl refl refl) in
    let short : AreShort v.literals.items v.starts.items v.short.items = short_same w.literals.items v.literals.items w.starts.items v.starts.items w.short.items n d g (omega arith) c.requires.sound.short in
    let sound : AreSound v = record { watches = watches; short = short; looked = c.requires.sound.looked } in
    let same : set_of d ≡ set_of c.args.clause.now = fun_ext (with_first_has c.args.clause.now c.args.first c.args.second pair.first_in pair.second_in) in
    let added : IsAdded w v n c.args.clause.now d = record { longer = g; same = same; sound = sound; size = ap length at_lists ∙ (c.add_long.auto.lists ∙ ap length c.as_mut_slice.ensures.value); looked = refl; front = refl } in
    λ vars clauses h. added_holds w v n c.args.clause.now d vars clauses added h

pub returns-in_ok-add_long-clause-fits : goal.returns-in_ok-add_long-clause-fits
returns-in_ok-add_long-clause-fits c =
    let w : Watches = c.args.self.now in
    let d : List Literal = with_first c.args.clause.now c.args.first c.args.second in
    let v : Watches = record { literals = c.add_long.new.literals; starts = c.add_long.new.starts; lists = with_items c.args.self.now.lists c.add_long.new.lists; short = c.args.self.now.short; looked = c.args.self.now.looked } in
    let n : ℕ = c.len-count.result - 1 in
    let long : c.len-count.result ≡ length w.starts.items = c.len-count.ensures ∙ w.starts.ok.0 in
    let count : n + 1 ≡ length w.starts.items = omega (arith, long, c.requires.sound.watches.table.some) in
    let few : length w.starts.items + 1 < 2 ^ 32 = omega (arith, long, c.if-count-ge4294967295.false) in
    let g0 : IsLonger w.literals.items (w.literals.items ++ d) w.starts.items (w.starts.items ++ length (w.literals.items ++ d) ∷ []) n d = longer w.literals.items d w.starts.items n c.requires.sound.watches.table few count in
    let at_starts : v.starts.items ≡ w.starts.items ++ length (w.literals.items ++ d) ∷ [] = c.in_ok-add_long.ensures.starts ∙ ap (λ (q : List Literal). w.starts.items ++ length q ∷ []) c.in_ok-add_long.ensures.literals in
    let g : IsLonger w.literals.items v.literals.items w.starts.items v.starts.items n d = rw (c.in_ok-add_long.ensures.literals, at_starts) g0 in
    let two : 2 ≤ length c.args.clause.now = omega (arith, c.if-clause-lt2.false) in
    let pair : ArePair c.args.clause.now c.args.first.0 c.args.second.0 = c.requires.pair two in
    let at_lists : v.lists.items ≡ c.add_long.new.lists = with_items_is w.lists c.add_long.new.lists (c.add_long.auto.lists ∙ c.as_mut_slice.ensures.len) in
    let lists : lists_of v.lists.items ≡ with_both (lists_of w.lists.items) c.args.first.0 c.args.second.0 (record { clause = n; blocker = c.args.second; start = length w.literals.items; end = length v.literals.items }) (record { clause = n; blocker = c.args.first; start = length w.literals.items; end = length v.literals.items }) = ap lists_of at_lists ∙ (rw c.as_mut_slice.ensures.value at c.in_ok-add_long.ensures.lists) in
    let watches : AreWatches v.literals.items v.starts.items (lists_of v.lists.items) = rw lists (watches_long w.literals.items v.literals.items w.starts.items v.starts.items (lists_of w.lists.items) n c.args.clause.now c.args.first c.args.second (record { clause = n; blocker = c.args.second; start = length w.literals.items; end = length v.literals.items }) (record { clause = n; blocker = c.args.first; start = length w.literals.items; end = length v.literals.items }) g c.requires.sound.watches pair.first_in pair.second_in pair.different c.requires.over.low (λ l h. omega (arith, c.requires.over.high l h, length_lists w.lists.items)) refl refl refl refl refl refl refl refl) in
    let short : AreShort v.literals.items v.starts.items v.short.items = short_same w.literals.items v.literals.items w.starts.items v.starts.items w.short.items n d g (omega arith) c.requires.sound.short in
    let sound : AreSound v = record { watches = watches; short = short; looked = c.requires.sound.looked } in
    let same : set_of d ≡ set_of c.args.clause.now = fun_ext (with_first_has c.args.clause.now c.args.first c.args.second pair.first_in pair.second_in) in
    let added : IsAdded w v n c.args.clause.now d = record { longer = g; same = same; sound = sound; size = ap length at_lists ∙ (c.add_long.auto.lists ∙ ap length c.as_mut_slice.ensures.value); looked = refl; front = refl } in
    λ t f guarded. added_fits w v n c.args.clause.now d t added f (λ x two_d h. pair_guarded c.args.clause.now c.args.first c.args.second t x (guarded two) h)
