-- Conjunctions of several tests, one by one.
use Rattle.std.proofs.Common.{◌≡◌, Bool, true, ◌&&◌}
use Rattle.vlog_tree.proofs.Sorts.{and_both, and_left, and_right}

pub fit2 : {a b : Bool} → (a && b) ≡ true → (a ≡ true) × ((b ≡ true))
fit2 h = (and_left _ _ h, and_right _ _ h)

pub both2 : {a b : Bool} → (a ≡ true) × ((b ≡ true)) → (a && b) ≡ true
both2 h = and_both _ _ (h.0) (h.1)

pub fit3 : {a b c : Bool} → (a && b && c) ≡ true → (a ≡ true) × ((b ≡ true) × ((c ≡ true)))
fit3 h = let h1 = and_left _ _ h in (and_left _ _ h1, (and_right _ _ h1, and_right _ _ h))

pub both3 : {a b c : Bool} → (a ≡ true) × ((b ≡ true) × ((c ≡ true))) → (a && b && c) ≡ true
both3 h = and_both _ _ (and_both _ _ (h.0) (h.1.0)) (h.1.1)

pub fit4 : {a b c d : Bool} → (a && b && c && d) ≡ true → (a ≡ true) × ((b ≡ true) × ((c ≡ true) × ((d ≡ true))))
fit4 h = let h1 = and_left _ _ h in let h2 = and_left _ _ h1 in (and_left _ _ h2, (and_right _ _ h2, (and_right _ _ h1, and_right _ _ h)))

pub both4 : {a b c d : Bool} → (a ≡ true) × ((b ≡ true) × ((c ≡ true) × ((d ≡ true)))) → (a && b && c && d) ≡ true
both4 h = and_both _ _ (and_both _ _ (and_both _ _ (h.0) (h.1.0)) (h.1.1.0)) (h.1.1.1)

pub fit5 : {a b c d e : Bool} → (a && b && c && d && e) ≡ true → (a ≡ true) × ((b ≡ true) × ((c ≡ true) × ((d ≡ true) × ((e ≡ true)))))
fit5 h = let h1 = and_left _ _ h in let h2 = and_left _ _ h1 in let h3 = and_left _ _ h2 in (and_left _ _ h3, (and_right _ _ h3, (and_right _ _ h2, (and_right _ _ h1, and_right _ _ h))))

pub both5 : {a b c d e : Bool} → (a ≡ true) × ((b ≡ true) × ((c ≡ true) × ((d ≡ true) × ((e ≡ true))))) → (a && b && c && d && e) ≡ true
both5 h = and_both _ _ (and_both _ _ (and_both _ _ (and_both _ _ (h.0) (h.1.0)) (h.1.1.0)) (h.1.1.1.0)) (h.1.1.1.1)

pub fit6 : {a b c d e f : Bool} → (a && b && c && d && e && f) ≡ true → (a ≡ true) × ((b ≡ true) × ((c ≡ true) × ((d ≡ true) × ((e ≡ true) × ((f ≡ true))))))
fit6 h = let h1 = and_left _ _ h in let h2 = and_left _ _ h1 in let h3 = and_left _ _ h2 in let h4 = and_left _ _ h3 in (and_left _ _ h4, (and_right _ _ h4, (and_right _ _ h3, (and_right _ _ h2, (and_right _ _ h1, and_right _ _ h)))))

pub both6 : {a b c d e f : Bool} → (a ≡ true) × ((b ≡ true) × ((c ≡ true) × ((d ≡ true) × ((e ≡ true) × ((f ≡ true)))))) → (a && b && c && d && e && f) ≡ true
both6 h = and_both _ _ (and_both _ _ (and_both _ _ (and_both _ _ (and_both _ _ (h.0) (h.1.0)) (h.1.1.0)) (h.1.1.1.0)) (h.1.1.1.1.0)) (h.1.1.1.1.1)

pub fit7 : {a b c d e f g : Bool} → (a && b && c && d && e && f && g) ≡ true → (a ≡ true) × ((b ≡ true) × ((c ≡ true) × ((d ≡ true) × ((e ≡ true) × ((f ≡ true) × ((g ≡ true)))))))
fit7 h = let h1 = and_left _ _ h in let h2 = and_left _ _ h1 in let h3 = and_left _ _ h2 in let h4 = and_left _ _ h3 in let h5 = and_left _ _ h4 in (and_left _ _ h5, (and_right _ _ h5, (and_right _ _ h4, (and_right _ _ h3, (and_right _ _ h2, (and_right _ _ h1, and_right _ _ h))))))

pub both7 : {a b c d e f g : Bool} → (a ≡ true) × ((b ≡ true) × ((c ≡ true) × ((d ≡ true) × ((e ≡ true) × ((f ≡ true) × ((g ≡ true))))))) → (a && b && c && d && e && f && g) ≡ true
both7 h = and_both _ _ (and_both _ _ (and_both _ _ (and_both _ _ (and_both _ _ (and_both _ _ (h.0) (h.1.0)) (h.1.1.0)) (h.1.1.1.0)) (h.1.1.1.1.0)) (h.1.1.1.1.1.0)) (h.1.1.1.1.1.1)

pub fit8 : {a b c d e f g h : Bool} → (a && b && c && d && e && f && g && h) ≡ true → (a ≡ true) × ((b ≡ true) × ((c ≡ true) × ((d ≡ true) × ((e ≡ true) × ((f ≡ true) × ((g ≡ true) × ((h ≡ true))))))))
fit8 h = let h1 = and_left _ _ h in let h2 = and_left _ _ h1 in let h3 = and_left _ _ h2 in let h4 = and_left _ _ h3 in let h5 = and_left _ _ h4 in let h6 = and_left _ _ h5 in (and_left _ _ h6, (and_right _ _ h6, (and_right _ _ h5, (and_right _ _ h4, (and_right _ _ h3, (and_right _ _ h2, (and_right _ _ h1, and_right _ _ h)))))))

pub both8 : {a b c d e f g h : Bool} → (a ≡ true) × ((b ≡ true) × ((c ≡ true) × ((d ≡ true) × ((e ≡ true) × ((f ≡ true) × ((g ≡ true) × ((h ≡ true)))))))) → (a && b && c && d && e && f && g && h) ≡ true
both8 h = and_both _ _ (and_both _ _ (and_both _ _ (and_both _ _ (and_both _ _ (and_both _ _ (and_both _ _ (h.0) (h.1.0)) (h.1.1.0)) (h.1.1.1.0)) (h.1.1.1.1.0)) (h.1.1.1.1.1.0)) (h.1.1.1.1.1.1.0)) (h.1.1.1.1.1.1.1)

pub fit9 : {a b c d e f g h i : Bool} → (a && b && c && d && e && f && g && h && i) ≡ true → (a ≡ true) × ((b ≡ true) × ((c ≡ true) × ((d ≡ true) × ((e ≡ true) × ((f ≡ true) × ((g ≡ true) × ((h ≡ true) × ((i ≡ true)))))))))
fit9 h = let h1 = and_left _ _ h in let h2 = and_left _ _ h1 in let h3 = and_left _ _ h2 in let h4 = and_left _ _ h3 in let h5 = and_left _ _ h4 in let h6 = and_left _ _ h5 in let h7 = and_left _ _ h6 in (and_left _ _ h7, (and_right _ _ h7, (and_right _ _ h6, (and_right _ _ h5, (and_right _ _ h4, (and_right _ _ h3, (and_right _ _ h2, (and_right _ _ h1, and_right _ _ h))))))))

pub both9 : {a b c d e f g h i : Bool} → (a ≡ true) × ((b ≡ true) × ((c ≡ true) × ((d ≡ true) × ((e ≡ true) × ((f ≡ true) × ((g ≡ true) × ((h ≡ true) × ((i ≡ true))))))))) → (a && b && c && d && e && f && g && h && i) ≡ true
both9 h = and_both _ _ (and_both _ _ (and_both _ _ (and_both _ _ (and_both _ _ (and_both _ _ (and_both _ _ (and_both _ _ (h.0) (h.1.0)) (h.1.1.0)) (h.1.1.1.0)) (h.1.1.1.1.0)) (h.1.1.1.1.1.0)) (h.1.1.1.1.1.1.0)) (h.1.1.1.1.1.1.1.0)) (h.1.1.1.1.1.1.1.1)
