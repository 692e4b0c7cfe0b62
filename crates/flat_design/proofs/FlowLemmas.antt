-- How flows of parts make the flow of a whole: nothing here knows an expression or a statement.
use Rattle.std.proofs.Common.{map, ◌≡◌, ◌⊎◌, inl, inr, ℕ, Bool, true, false, ◌||◌, ◌&&◌, List, [], ◌∷◌, refl, ◌∙◌, ap}
use Rattle.std.specs.Prelude.{if◌then◌else◌}
use Rattle.std.specs.List.{list_any, list_all}
use Rattle.flat_design.specs.Bits.{Set, Values, Agree}
use Rattle.flat_design.specs.Statements.{State, Run, ArmRun, run_all, run_arms}
use Rattle.flat_design.specs.Flows.{Flow, ArmFlow, before, either, reading, all_before, flow_arms, no_path}
use Rattle.flat_design.specs.Laws.{IsFlow}

-- ---- tests

pub or_left : (x y : Bool) → x ≡ true → x || y ≡ true
or_left true y h = refl
or_left false y h = absurd (cc h)

pub or_right : (x y : Bool) → y ≡ true → x || y ≡ true
or_right true y h = refl
or_right false y h = h

pub none_left : (x y : Bool) → x || y ≡ false → x ≡ false
none_left true y h = absurd (cc h)
none_left false y h = refl

pub none_right : (x y : Bool) → x || y ≡ false → y ≡ false
none_right true y h = absurd (cc h)
none_right false y h = h

pub and_left : (x y : Bool) → x && y ≡ true → x ≡ true
and_left true y h = refl
and_left false y h = absurd (cc h)

pub and_right : (x y : Bool) → x && y ≡ true → y ≡ true
and_right true y h = h
and_right false y h = absurd (cc h)

pub both_hold : (x y : Bool) → x ≡ true → y ≡ true → x && y ≡ true
both_hold true y h k = k
both_hold false y h k = absurd (cc h)

pub one_fails : (x y : Bool) → x && y ≡ false → (x ≡ false) ⊎ (y ≡ false)
one_fails true y h = inr h
one_fails false y h = inl refl

pub is_or_not : (x : Bool) → (x ≡ true) ⊎ (x ≡ false)
is_or_not true = inl refl
is_or_not false = inr refl

-- ---- nothing, and one after the other

pub idle_flow : (set : Set) → IsFlow (λ s. s) (reading set)
idle_flow set = record {
  stays = λ s i h. refl;
  same = λ s t agree i either. untouched (s.now i ≡ t.now i) either;
  later = λ s t agree e. e;
  kept = λ s v i h. refl;
} where
  untouched : (P : Type 0) → P ⊎ (true ≡ false) → P
  untouched P (inl e) = e
  untouched P (inr h) = absurd (cc h)

-- what the second reads agrees after the first has run
mid_agree : (r : Run) (f g : Flow) → IsFlow r f → (s t : State) → Agree (λ i. f.reads i || (f.leaves i && g.reads i)) s.now t.now → Agree g.reads (r s).now (r t).now
mid_agree r f g h s t agree i on = h.same s t (λ j on. agree j (or_left (f.reads j) (f.leaves j && g.reads j) on)) i (known (f.leaves i) refl) where
  known : (b : Bool) → f.leaves i ≡ b → (s.now i ≡ t.now i) ⊎ (f.leaves i ≡ false)
  known true e = inl (agree i (or_right (f.reads i) (f.leaves i && g.reads i) (both_hold (f.leaves i) (g.reads i) e on)))
  known false e = inr e

pub before_flow : (r q : Run) (f g : Flow) → IsFlow r f → IsFlow q g → IsFlow (λ s. q (r s)) (before f g)
before_flow r q f g h k = record {
  stays = λ s i out. k.stays (r s) i (none_right (f.drives i) (g.drives i) out) ∙ h.stays s i (none_left (f.drives i) (g.drives i) out);
  same = λ s t agree i either. k.same (r s) (r t) (mid_agree r f g h s t agree) i (handed s t agree i either);
  later = λ s t agree e. k.later (r s) (r t) (mid_agree r f g h s t agree) (h.later s t (λ j on. agree j (or_left (f.reads j) (f.leaves j && g.reads j) on)) e);
  kept = λ s v i out. k.kept (r s) v i (none_right (f.drives i) (g.drives i) out) ∙ h.kept s v i (none_left (f.drives i) (g.drives i) out);
} where
  first : (s t : State) → Agree (λ i. f.reads i || (f.leaves i && g.reads i)) s.now t.now → (i : ℕ) → (s.now i ≡ t.now i) ⊎ (f.leaves i ≡ false) → (r s).now i ≡ (r t).now i
  first s t agree = h.same s t (λ j on. agree j (or_left (f.reads j) (f.leaves j && g.reads j) on))

  split : (s t : State) → Agree (λ i. f.reads i || (f.leaves i && g.reads i)) s.now t.now → (i : ℕ) → (f.leaves i ≡ false) ⊎ (g.leaves i ≡ false) → ((r s).now i ≡ (r t).now i) ⊎ (g.leaves i ≡ false)
  split s t agree i (inl e) = inl (first s t agree i (inr e))
  split s t agree i (inr e) = inr e

  handed : (s t : State) → Agree (λ i. f.reads i || (f.leaves i && g.reads i)) s.now t.now → (i : ℕ) → (s.now i ≡ t.now i) ⊎ (f.leaves i && g.leaves i ≡ false) → ((r s).now i ≡ (r t).now i) ⊎ (g.leaves i ≡ false)
  handed s t agree i (inl e) = inl (first s t agree i (inl e))
  handed s t agree i (inr e) = split s t agree i (one_fails (f.leaves i) (g.leaves i) e)

-- ---- the one or the other

-- a flow that says no more
pub weaker_flow : (r : Run) (f g : Flow) → ((i : ℕ) → f.reads i ≡ true → g.reads i ≡ true) → ((i : ℕ) → g.leaves i ≡ false → f.leaves i ≡ false) → ((i : ℕ) → g.drives i ≡ false → f.drives i ≡ false) → IsFlow r f → IsFlow r g
weaker_flow r f g reads leaves drives h = record {
  stays = λ s i out. h.stays s i (drives i out);
  same = λ s t agree i either. h.same s t (λ j on. agree j (reads j on)) i (known s t i either);
  later = λ s t agree e. h.later s t (λ j on. agree j (reads j on)) e;
  kept = λ s v i out. h.kept s v i (drives i out);
} where
  known : (s t : State) (i : ℕ) → (s.now i ≡ t.now i) ⊎ (g.leaves i ≡ false) → (s.now i ≡ t.now i) ⊎ (f.leaves i ≡ false)
  known s t i (inl e) = inl e
  known s t i (inr e) = inr (leaves i e)

pub left_flow : (r : Run) (f g : Flow) → IsFlow r f → IsFlow r (either f g)
left_flow r f g = weaker_flow r f (either f g) (λ i on. or_left (f.reads i) (g.reads i) on) (λ i out. none_left (f.leaves i) (g.leaves i) out) (λ i out. none_left (f.drives i) (g.drives i) out)

pub right_flow : (r : Run) (f g : Flow) → IsFlow r g → IsFlow r (either f g)
right_flow r f g = weaker_flow r g (either f g) (λ i on. or_right (f.reads i) (g.reads i) on) (λ i out. none_right (f.leaves i) (g.leaves i) out) (λ i out. none_right (f.drives i) (g.drives i) out)

pub choice_flow : (r q : Run) (f g : Flow) → IsFlow r f → IsFlow q g → (b : Bool) → IsFlow (λ s. if b then r s else q s) (either f g)
choice_flow r q f g h k true = left_flow r f g h
choice_flow r q f g h k false = right_flow q f g k

-- what is looked at before decides what is run
pub given_flow : {A : Type 0} (look : Values → A) (set : Set) → ((v w : Values) → Agree set v w → look v ≡ look w) → (r : A → Run) (f : Flow) → ((u : Values) → IsFlow (r (look u)) f) → IsFlow (λ s. r (look s.now) s) (before (reading set) f)
given_flow look set looks r f h = record {
  stays = λ s i out. (h s.now).stays s i out;
  same = λ s t agree i either. ap (λ a. (r a s).now i) (looks s.now t.now (λ j on. agree j (or_left (set j) (f.reads j) on))) ∙ (h t.now).same s t (λ j on. agree j (or_right (set j) (f.reads j) on)) i either;
  later = λ s t agree e. ap (λ a. (r a s).later) (looks s.now t.now (λ j on. agree j (or_left (set j) (f.reads j) on))) ∙ (h t.now).later s t (λ j on. agree j (or_right (set j) (f.reads j) on)) e;
  kept = λ s v i out. (h s.now).kept s v i out;
}

-- ---- blocks and branches

unfoldable pub AreFlows : List Run → List Flow → Type 0
AreFlows [] [] = Unit {0}
AreFlows [] (f ∷ fs) = ⊥
AreFlows (r ∷ rs) [] = ⊥
AreFlows (r ∷ rs) (f ∷ fs) = IsFlow r f × AreFlows rs fs

pub block_flow : (rs : List Run) (fs : List Flow) → AreFlows rs fs → IsFlow (run_all rs) (all_before fs)
unfolding AreFlows
block_flow [] [] are = idle_flow (λ i. false)
block_flow [] (f ∷ fs) are = absurd are
block_flow (r ∷ rs) [] are = absurd are
block_flow (r ∷ rs) (f ∷ fs) are = before_flow r (run_all rs) f (all_before fs) are.0 (block_flow rs fs are.1)

-- an arm, whose labels may be constant
pub record IsArm (a : ArmRun) (f : ArmFlow) : Type 0 where
  pub asks : (word : List Bool) (v w : Values) → Agree f.reads v w → a.0 v word ≡ a.0 w word
  pub same : f.test.constant ≡ true → (v : Values) (word : List Bool) → a.0 v word ≡ f.test.matches word
  pub body : IsFlow a.1 f.body

unfoldable pub AreArms : List ArmRun → List ArmFlow → Type 0
AreArms [] [] = Unit {0}
AreArms [] (f ∷ fs) = ⊥
AreArms (a ∷ ars) [] = ⊥
AreArms (a ∷ ars) (f ∷ fs) = IsArm a f × AreArms ars fs

pub arms_flow : (word : List Bool) (ars : List ArmRun) (fs : List ArmFlow) (other : Run) (g : Flow) → AreArms ars fs → IsFlow other g → IsFlow (run_arms word ars other) (flow_arms fs g)
unfolding AreArms
arms_flow word [] [] other g are h = h
arms_flow word [] (f ∷ fs) other g are h = absurd are
arms_flow word (a ∷ ars) [] other g are h = absurd are
arms_flow word (a ∷ ars) (f ∷ fs) other g are h =
    given_flow (λ v. a.0 v word) f.reads (λ v w agree. are.0.asks word v w agree) (λ b s. if b then a.1 s else run_arms word ars other s) (either f.body (flow_arms fs g))
    (λ u. choice_flow a.1 (run_arms word ars other) f.body (flow_arms fs g) are.0.body (arms_flow word ars fs other g are.1 h) (a.0 u word))

-- a run by a test that is known
taken_flow : (r q : Run) (f : Flow) (b : Bool) → b ≡ true → IsFlow r f → IsFlow (λ s. if b then r s else q s) f
taken_flow r q f true e h = h
taken_flow r q f false e h = absurd (cc e)

-- a case that one of the arms is sure to match
pub full_flow : (word : List Bool) (ars : List ArmRun) (fs : List ArmFlow) (other : Run) → AreArms ars fs → list_all (λ t. t.constant) (map (λ f. f.test) fs) ≡ true → list_any (λ t. t.matches word) (map (λ f. f.test) fs) ≡ true
    → IsFlow (run_arms word ars other) (flow_arms fs no_path)
unfolding AreArms
full_flow word [] [] other are constant some = absurd (cc some)
full_flow word [] (f ∷ fs) other are constant some = absurd are
full_flow word (a ∷ ars) [] other are constant some = absurd are
full_flow word (a ∷ ars) (f ∷ fs) other are constant some =
    given_flow (λ v. a.0 v word) f.reads (λ v w agree. are.0.asks word v w agree) (λ x s. if x then a.1 s else run_arms word ars other s) (either f.body (flow_arms fs no_path))
    (λ u. decided u (f.test.matches word) refl (λ some. full_flow word ars fs other are.1 (and_right f.test.constant _ constant) some)) where
      others : (x y : Bool) → x ≡ false → x || y ≡ true → y ≡ true
      others true y e h = absurd (cc e)
      others false y e h = h

      passed : (y : Bool) → y ≡ false → IsFlow (run_arms word ars other) (flow_arms fs no_path) → IsFlow (λ s. if y then a.1 s else run_arms word ars other s) (either f.body (flow_arms fs no_path))
      passed true e h = absurd (cc e)
      passed false e h = right_flow (run_arms word ars other) f.body (flow_arms fs no_path) h

      decided : (u : Values) (x : Bool) → f.test.matches word ≡ x → (list_any (λ t. t.matches word) (map (λ f. f.test) fs) ≡ true → IsFlow (run_arms word ars other) (flow_arms fs no_path))
          → IsFlow (λ s. if a.0 u word then a.1 s else run_arms word ars other s) (either f.body (flow_arms fs no_path))
      decided u true e rest = left_flow (λ s. if a.0 u word then a.1 s else run_arms word ars other s) f.body (flow_arms fs no_path) (taken_flow a.1 (run_arms word ars other) f.body (a.0 u word) (are.0.same (and_left f.test.constant _ constant) u word ∙ e) are.0.body)
      decided u false e rest = passed (a.0 u word) (are.0.same (and_left f.test.constant _ constant) u word ∙ e) (rest (others (f.test.matches word) _ e some))
