-- The laws of the rules that hold no items.
use Rattle.std.proofs.Common.{◌≡◌, ℕ, suc, ◌+◌, ◌<◌, Bool, true, false, not, ◌&&◌, ◌||◌, List, [], ◌∷◌, ◌++◌, length, Option, Some, None, codes, refl, sym, ◌∙◌, ◌⊎◌, inl, inr, ap, subst, append_assoc, arith}
use Rattle.std.specs.List.{list_all}
use Rattle.parsing.specs.Parser.{Parser, seq, form, expect, on, optional, many}
use Rattle.rdl_tree.specs.declared.token.RdlTokenKind.TheVariants.{Num, Str}
use Rattle.rdl_tree.specs.declared.token.RdlToken.{RdlToken}
use Rattle.rdl_tree.specs.declared.tree.RdlUse.{RdlUse}
use Rattle.rdl_tree.specs.declared.tree.RdlInsts.{RdlInsts}
use Rattle.rdl_tree.specs.declared.tree.RdlNextInst.{RdlNextInst}
use Rattle.rdl_tree.specs.declared.tree.RdlInst.{RdlInst}
use Rattle.rdl_tree.specs.declared.tree.RdlRange.{RdlRange}
use Rattle.rdl_tree.specs.declared.tree.RdlMarked.{RdlMarked}
use Rattle.rdl_tree.specs.declared.tree.RdlProp.{RdlProp}
use Rattle.rdl_tree.specs.declared.tree.RdlAssigned.{RdlAssigned}
use Rattle.rdl_tree.specs.declared.tree.RdlValue.{RdlValue}
use Rattle.rdl_tree.specs.declared.tree.RdlSignal.{RdlSignal}
use Rattle.rdl_tree.specs.declared.tree.RdlPath.{RdlPath}
use Rattle.rdl_tree.specs.declared.tree.RdlNextStep.{RdlNextStep}
use Rattle.rdl_tree.specs.declared.tree.RdlStep.{RdlStep}
use Rattle.rdl_tree.specs.declared.tree.RdlIndex.{RdlIndex}
use Rattle.rdl_tree.specs.declared.tree.RdlEnum.{RdlEnum}
use Rattle.rdl_tree.specs.declared.tree.RdlEntry.{RdlEntry}
use Rattle.rdl_tree.specs.declared.tree.RdlEntryBody.{RdlEntryBody}
use Rattle.rdl_tree.specs.declared.tree.RdlEntryProp.{RdlEntryProp}
use Rattle.rdl_tree.specs.declared.tree.RdlKind.{RdlKind}
use Rattle.rdl_tree.specs.declared.tree.RdlValue.TheVariants as value
use Rattle.rdl_tree.specs.declared.tree.RdlKind.TheVariants.{Addrmap, Regfile, Reg, Field}
use Rattle.rdl_tree.specs.Tree.{Tokens, is_kind, is_text, is_name, flat_option, flat_list, flat_marked, flat_index, flat_step, flat_next_step, flat_path, flat_signal, flat_value, flat_assigned, flat_prop, flat_range, flat_inst, flat_next_inst, flat_insts, flat_kind, flat_entry_prop, flat_entry_body, flat_entry, flat_enum, fits_option, fits_marked, fits_index, fits_step, fits_next_step, fits_path, fits_signal, fits_value, fits_assigned, fits_prop, fits_range, fits_inst, fits_next_inst, fits_insts, fits_kind, fits_entry_prop, fits_entry_body, fits_entry, fits_enum}
use Rattle.rdl_parse.specs.Grammar.{mark, marked, any_marked, index, any_index, step, next_step, next_steps, path, signal, any_signal, reference, value_of, assigned, any_assigned, prop, range, any_range, inst, next_inst, next_insts, insts, entry_prop, entry_props, entry_body, any_body, entry, entries, enumeration, kind}
use Rattle.rdl_parse.proofs.Sorts.{and_both, and_left, and_right, Sorted, subset, disjoint, name_sorted, number_sorted, string_sorted, open_brace_sorted, close_brace_sorted, open_bracket_sorted, close_bracket_sorted, semi_sorted, comma_sorted, equals_sorted, colon_sorted, at_sorted, arrow_sorted, plus_equals_sorted, percent_equals_sorted, dot_sorted, addrmap_sorted, regfile_sorted, reg_sorted, field_sorted, enum_sorted, default_sorted, true_sorted, false_sorted}
use Rattle.rdl_parse.proofs.Build.{Reading, Holds, Image, then_rule, as_rule, any_rule, each_rule, or_rule, image_rule, fitting_rule, wider_rule}
use Rattle.rdl_parse.proofs.Tokens.{number_rule, name_rule, string_rule, open_brace_rule, close_brace_rule, open_bracket_rule, close_bracket_rule, semi_rule, comma_rule, equals_rule, colon_rule, at_rule, arrow_rule, plus_equals_rule, percent_equals_rule, dot_rule, addrmap_rule, regfile_rule, reg_rule, field_rule, enum_rule, default_rule, true_rule, false_rule}

abbrev make_marked : RdlToken × RdlToken → RdlMarked
make_marked p = record { mark = p.0; number = p.1 }

pub marked_rule : (room more : ℕ) (bytes : List ℕ) (k : ℕ) (N : List ℕ) → ((N' : List ℕ) → Reading room more (k ∷ []) N' (mark bytes) (mark bytes) (λ t. t ∷ []) (Holds (is_text bytes)))
    → Reading room more (k ∷ []) N (marked bytes) (marked bytes) flat_marked (Holds (fits_marked bytes))
unfolding marked
marked_rule room more bytes k N first =
    as_rule make_marked flat_marked (Holds (fits_marked bytes)) (λ p h. (refl, and_both _ _ h.0 h.1)) (λ x h. ((x.mark, x.number), (refl, (and_left _ _ h, and_right _ _ h))))
    (then_rule refl (first (1 ∷ [])) (λ _. number_rule room more N))

any_colon_rule : (room more : ℕ) → Reading room more (17 ∷ 13 ∷ []) (13 ∷ []) (any_marked (codes ":")) (any_marked (codes ":")) (flat_option flat_marked) (Holds (fits_option (fits_marked (codes ":"))))
unfolding any_marked
any_colon_rule room more = any_rule (is_text (codes ":")) (17 ∷ []) colon_sorted refl refl refl (marked_rule room more (codes ":") 17 (13 ∷ []) (colon_rule room more))

any_equals_rule : (room more : ℕ) → Reading room more (16 ∷ 18 ∷ 20 ∷ 21 ∷ 15 ∷ 14 ∷ []) (18 ∷ 20 ∷ 21 ∷ 15 ∷ 14 ∷ []) (any_marked (codes "=")) (any_marked (codes "=")) (flat_option flat_marked) (Holds (fits_option (fits_marked (codes "="))))
unfolding any_marked
any_equals_rule room more = any_rule (is_text (codes "=")) (16 ∷ []) equals_sorted refl refl refl (marked_rule room more (codes "=") 16 (18 ∷ 20 ∷ 21 ∷ 15 ∷ 14 ∷ []) (equals_rule room more))

any_value_rule : (room more : ℕ) → Reading room more (16 ∷ 10 ∷ 14 ∷ []) (10 ∷ 14 ∷ []) (any_marked (codes "=")) (any_marked (codes "=")) (flat_option flat_marked) (Holds (fits_option (fits_marked (codes "="))))
unfolding any_marked
any_value_rule room more = any_rule (is_text (codes "=")) (16 ∷ []) equals_sorted refl refl refl (marked_rule room more (codes "=") 16 (10 ∷ 14 ∷ []) (equals_rule room more))

any_at_rule : (room more : ℕ) → Reading room more (18 ∷ 20 ∷ 21 ∷ 15 ∷ 14 ∷ []) (20 ∷ 21 ∷ 15 ∷ 14 ∷ []) (any_marked (codes "@")) (any_marked (codes "@")) (flat_option flat_marked) (Holds (fits_option (fits_marked (codes "@"))))
unfolding any_marked
any_at_rule room more = any_rule (is_text (codes "@")) (18 ∷ []) at_sorted refl refl refl (marked_rule room more (codes "@") 18 (20 ∷ 21 ∷ 15 ∷ 14 ∷ []) (at_rule room more))

any_plus_equals_rule : (room more : ℕ) → Reading room more (20 ∷ 21 ∷ 15 ∷ 14 ∷ []) (21 ∷ 15 ∷ 14 ∷ []) (any_marked (codes "+=")) (any_marked (codes "+=")) (flat_option flat_marked) (Holds (fits_option (fits_marked (codes "+="))))
unfolding any_marked
any_plus_equals_rule room more = any_rule (is_text (codes "+=")) (20 ∷ []) plus_equals_sorted refl refl refl (marked_rule room more (codes "+=") 20 (21 ∷ 15 ∷ 14 ∷ []) (plus_equals_rule room more))

any_percent_equals_rule : (room more : ℕ) → Reading room more (21 ∷ 15 ∷ 14 ∷ []) (15 ∷ 14 ∷ []) (any_marked (codes "%=")) (any_marked (codes "%=")) (flat_option flat_marked) (Holds (fits_option (fits_marked (codes "%="))))
unfolding any_marked
any_percent_equals_rule room more = any_rule (is_text (codes "%=")) (21 ∷ []) percent_equals_sorted refl refl refl (marked_rule room more (codes "%=") 21 (15 ∷ 14 ∷ []) (percent_equals_rule room more))

abbrev make_index : RdlToken × (RdlToken × RdlToken) → RdlIndex
make_index p = record { «open» = p.0; number = p.1.0; close = p.1.1 }

pub index_rule : (room more : ℕ) (N : List ℕ) → Reading room more (12 ∷ []) (N) (index) (index) (flat_index) (Holds (fits_index))
unfolding index
index_rule room more N =
    as_rule make_index (flat_index) (Holds (fits_index)) (λ p h. (refl, and_both _ _ (and_both _ _ h.0 h.1.0) h.1.1)) (λ x h. ((x.open, (x.number, x.close)), (refl, ((and_left _ _ (and_left _ _ h)), ((and_right _ _ (and_left _ _ h)), (and_right _ _ h))))))
    (then_rule refl (open_bracket_rule room more (1 ∷ [])) (λ _. then_rule refl (number_rule room more (13 ∷ [])) (λ _. close_bracket_rule room more N)))

pub any_index_rule : (room more : ℕ) (N : List ℕ) → disjoint N (12 ∷ []) ≡ true → Reading room more (12 ∷ N) N any_index any_index (flat_option flat_index) (Holds (fits_option fits_index))
unfolding any_index
any_index_rule room more N away = any_rule (is_text (codes "[")) (12 ∷ []) open_bracket_sorted refl refl away (index_rule room more N)

abbrev make_step : RdlToken × Option RdlIndex → RdlStep
make_step p = record { name = p.0; index = p.1 }

pub step_rule : (room more : ℕ) (N : List ℕ) → disjoint N (12 ∷ []) ≡ true → subset (12 ∷ N) (12 ∷ N) ≡ true → Reading room more (4 ∷ []) (N) (step) (step) (flat_step) (Holds (fits_step))
unfolding step
step_rule room more N away self =
    as_rule make_step (flat_step) (Holds (fits_step)) (λ p h. (refl, and_both _ _ h.0 h.1)) (λ x h. ((x.name, x.index), (refl, ((and_left _ _ h), (and_right _ _ h)))))
    (then_rule self (name_rule room more (12 ∷ N)) (λ _. any_index_rule room more N away))

abbrev make_next_step : RdlToken × RdlStep → RdlNextStep
make_next_step p = record { dot = p.0; step = p.1 }

pub next_step_rule : (room more : ℕ) (N : List ℕ) → disjoint N (12 ∷ []) ≡ true → subset (12 ∷ N) (12 ∷ N) ≡ true → Reading room more (22 ∷ []) (N) (next_step) (next_step) (flat_next_step) (Holds (fits_next_step))
unfolding next_step
next_step_rule room more N away self =
    as_rule make_next_step (flat_next_step) (Holds (fits_next_step)) (λ p h. (refl, and_both _ _ h.0 h.1)) (λ x h. ((x.dot, x.step), (refl, ((and_left _ _ h), (and_right _ _ h)))))
    (then_rule refl (dot_rule room more (4 ∷ [])) (λ _. step_rule room more N away self))

pub next_steps_rule : (room more : ℕ) → Reading room more (22 ∷ 19 ∷ 14 ∷ []) (19 ∷ 14 ∷ []) next_steps next_steps (flat_list flat_next_step) (Holds (list_all fits_next_step))
unfolding next_steps
next_steps_rule room more = each_rule (is_text (codes ".")) (22 ∷ []) (19 ∷ 14 ∷ []) dot_sorted refl refl refl refl (λ a h. omega arith) (next_step_rule room more (22 ∷ 19 ∷ 14 ∷ []) refl refl)

pub tail_steps_rule : (room more : ℕ) → Reading room more (22 ∷ 19 ∷ []) (19 ∷ []) next_steps next_steps (flat_list flat_next_step) (Holds (list_all fits_next_step))
unfolding next_steps
tail_steps_rule room more = each_rule (is_text (codes ".")) (22 ∷ []) (19 ∷ []) dot_sorted refl refl refl refl (λ a h. omega arith) (next_step_rule room more (22 ∷ 19 ∷ []) refl refl)

abbrev make_path : RdlStep × List RdlNextStep → RdlPath
make_path p = record { first = p.0; more = p.1 }

pub path_rule : (room more : ℕ) → Reading room more (4 ∷ []) (19 ∷ 14 ∷ []) (path) (path) (flat_path) (Holds (fits_path))
unfolding path
path_rule room more =
    as_rule make_path (flat_path) (Holds (fits_path)) (λ p h. (refl, and_both _ _ h.0 h.1)) (λ x h. ((x.first, x.more), (refl, ((and_left _ _ h), (and_right _ _ h)))))
    (then_rule refl (step_rule room more (22 ∷ 19 ∷ 14 ∷ []) refl refl) (λ _. next_steps_rule room more))

abbrev make_signal : RdlToken × RdlToken → RdlSignal
make_signal p = record { arrow = p.0; name = p.1 }

pub signal_rule : (room more : ℕ) → Reading room more (19 ∷ []) (14 ∷ []) (signal) (signal) (flat_signal) (Holds (fits_signal))
unfolding signal
signal_rule room more =
    as_rule make_signal (flat_signal) (Holds (fits_signal)) (λ p h. (refl, and_both _ _ h.0 h.1)) (λ x h. ((x.arrow, x.name), (refl, ((and_left _ _ h), (and_right _ _ h)))))
    (then_rule refl (arrow_rule room more (4 ∷ [])) (λ _. name_rule room more (14 ∷ [])))

any_signal_rule : (room more : ℕ) → Reading room more (19 ∷ 14 ∷ []) (14 ∷ []) any_signal any_signal (flat_option flat_signal) (Holds (fits_option fits_signal))
unfolding any_signal
any_signal_rule room more = any_rule (is_text (codes "->")) (19 ∷ []) arrow_sorted refl refl refl (signal_rule room more)

abbrev make_reference : RdlPath × Option RdlSignal → RdlValue
make_reference p = value.Reference p.0 p.1

reference_rule : (room more : ℕ) → Reading room more (4 ∷ []) (14 ∷ []) reference reference flat_value (Image make_reference (λ p. (fits_path p.0 ≡ true) × (fits_option fits_signal p.1 ≡ true)))
unfolding reference
reference_rule room more = image_rule make_reference flat_value (λ p h. refl) (then_rule refl (path_rule room more) (λ _. any_signal_rule room more))

value_fits : (v : RdlValue) → Image value.Num (Holds (is_kind Num)) v ⊎ (Image value.Str (Holds (is_kind Str)) v ⊎ (Image value.True (Holds (is_text (codes "true"))) v ⊎ (Image value.False (Holds (is_text (codes "false"))) v
    ⊎ Image make_reference (λ p. (fits_path p.0 ≡ true) × (fits_option fits_signal p.1 ≡ true)) v))) → fits_value v ≡ true
value_fits v (inl (t, (e, h))) = rw (← e) h
value_fits v (inr (inl (t, (e, h)))) = rw (← e) h
value_fits v (inr (inr (inl (t, (e, h))))) = rw (← e) h
value_fits v (inr (inr (inr (inl (t, (e, h)))))) = rw (← e) h
value_fits v (inr (inr (inr (inr (p, (e, h)))))) = rw (← e) (and_both _ _ h.0 h.1)

fits_values : (v : RdlValue) → fits_value v ≡ true → Image value.Num (Holds (is_kind Num)) v ⊎ (Image value.Str (Holds (is_kind Str)) v ⊎ (Image value.True (Holds (is_text (codes "true"))) v ⊎ (Image value.False (Holds (is_text (codes "false"))) v
    ⊎ Image make_reference (λ p. (fits_path p.0 ≡ true) × (fits_option fits_signal p.1 ≡ true)) v)))
fits_values (value.Num t) h = inl (t, (refl, h))
fits_values (value.Str t) h = inr (inl (t, (refl, h)))
fits_values (value.True t) h = inr (inr (inl (t, (refl, h))))
fits_values (value.False t) h = inr (inr (inr (inl (t, (refl, h)))))
fits_values (value.Reference path signal) h = inr (inr (inr (inr ((path, signal), (refl, (and_left _ _ h, and_right _ _ h))))))

pub value_rule : (room more : ℕ) → Reading room more (1 ∷ 2 ∷ 36 ∷ 37 ∷ 4 ∷ []) (14 ∷ []) value_of value_of flat_value (Holds fits_value)
unfolding value_of
value_rule room more =
    fitting_rule (Holds fits_value) value_fits fits_values
    (or_rule (is_kind Num) (1 ∷ []) number_sorted refl refl refl (image_rule value.Num flat_value (λ t h. refl) (number_rule room more (14 ∷ [])))
    (or_rule (is_kind Str) (2 ∷ []) string_sorted refl refl refl (image_rule value.Str flat_value (λ t h. refl) (string_rule room more (14 ∷ [])))
    (or_rule (is_text (codes "true")) (36 ∷ []) true_sorted refl refl refl (image_rule value.True flat_value (λ t h. refl) (true_rule room more (14 ∷ [])))
    (or_rule (is_text (codes "false")) (37 ∷ []) false_sorted refl refl refl (image_rule value.False flat_value (λ t h. refl) (false_rule room more (14 ∷ []))) (reference_rule room more)))))

abbrev make_assigned : RdlToken × RdlValue → RdlAssigned
make_assigned p = record { equals = p.0; value = p.1 }

pub assigned_rule : (room more : ℕ) → Reading room more (16 ∷ []) (14 ∷ []) (assigned) (assigned) (flat_assigned) (Holds (fits_assigned))
unfolding assigned
assigned_rule room more =
    as_rule make_assigned (flat_assigned) (Holds (fits_assigned)) (λ p h. (refl, and_both _ _ h.0 h.1)) (λ x h. ((x.equals, x.value), (refl, ((and_left _ _ h), (and_right _ _ h)))))
    (then_rule refl (equals_rule room more (1 ∷ 2 ∷ 36 ∷ 37 ∷ 4 ∷ [])) (λ _. value_rule room more))

pub any_assigned_rule : (room more : ℕ) → Reading room more (16 ∷ 14 ∷ []) (14 ∷ []) any_assigned any_assigned (flat_option flat_assigned) (Holds (fits_option fits_assigned))
unfolding any_assigned
any_assigned_rule room more = any_rule (is_text (codes "=")) (16 ∷ []) equals_sorted refl refl refl (assigned_rule room more)

abbrev make_prop : RdlToken × Option RdlAssigned → RdlProp
make_prop p = record { name = p.0; value = p.1 }

pub prop_rule : (room more : ℕ) → Reading room more (4 ∷ []) (14 ∷ []) (prop) (prop) (flat_prop) (Holds (fits_prop))
unfolding prop
prop_rule room more =
    as_rule make_prop (flat_prop) (Holds (fits_prop)) (λ p h. (refl, and_both _ _ h.0 h.1)) (λ x h. ((x.name, x.value), (refl, ((and_left _ _ h), (and_right _ _ h)))))
    (then_rule refl (name_rule room more (16 ∷ 14 ∷ [])) (λ _. any_assigned_rule room more))

abbrev make_range : RdlToken × (RdlToken × (Option RdlMarked × RdlToken)) → RdlRange
make_range p = record { «open» = p.0; first = p.1.0; second = p.1.1.0; close = p.1.1.1 }

pub range_rule : (room more : ℕ) (N : List ℕ) → Reading room more (12 ∷ []) (N) (range) (range) (flat_range) (Holds (fits_range))
unfolding range
range_rule room more N =
    as_rule make_range (flat_range) (Holds (fits_range)) (λ p h. (refl, and_both _ _ (and_both _ _ (and_both _ _ h.0 h.1.0) h.1.1.0) h.1.1.1)) (λ x h. ((x.open, (x.first, (x.second, x.close))), (refl, ((and_left _ _ (and_left _ _ (and_left _ _ h))), ((and_right _ _ (and_left _ _ (and_left _ _ h))), ((and_right _ _ (and_left _ _ h)), (and_right _ _ h)))))))
    (then_rule refl (open_bracket_rule room more (1 ∷ [])) (λ _. then_rule refl (number_rule room more (17 ∷ 13 ∷ [])) (λ _. then_rule refl (any_colon_rule room more) (λ _. close_bracket_rule room more N))))

any_range_rule : (room more : ℕ) → Reading room more (12 ∷ 16 ∷ 18 ∷ 20 ∷ 21 ∷ 15 ∷ 14 ∷ []) (16 ∷ 18 ∷ 20 ∷ 21 ∷ 15 ∷ 14 ∷ []) any_range any_range (flat_option flat_range) (Holds (fits_option fits_range))
unfolding any_range
any_range_rule room more = any_rule (is_text (codes "[")) (12 ∷ []) open_bracket_sorted refl refl refl (range_rule room more (16 ∷ 18 ∷ 20 ∷ 21 ∷ 15 ∷ 14 ∷ []))

abbrev make_inst : RdlToken × (Option RdlRange × (Option RdlMarked × (Option RdlMarked × (Option RdlMarked × Option RdlMarked)))) → RdlInst
make_inst p = record { name = p.0; range = p.1.0; reset = p.1.1.0; address = p.1.1.1.0; stride = p.1.1.1.1.0; alignment = p.1.1.1.1.1 }

pub inst_rule : (room more : ℕ) → Reading room more (4 ∷ []) (15 ∷ 14 ∷ []) (inst) (inst) (flat_inst) (Holds (fits_inst))
unfolding inst
inst_rule room more =
    as_rule make_inst (flat_inst) (Holds (fits_inst)) (λ p h. (simp append_assoc, and_both _ _ (and_both _ _ (and_both _ _ (and_both _ _ (and_both _ _ h.0 h.1.0) h.1.1.0) h.1.1.1.0) h.1.1.1.1.0) h.1.1.1.1.1)) (λ x h. ((x.name, (x.range, (x.reset, (x.address, (x.stride, x.alignment))))), (refl, ((and_left _ _ (and_left _ _ (and_left _ _ (and_left _ _ (and_left _ _ h))))), ((and_right _ _ (and_left _ _ (and_left _ _ (and_left _ _ (and_left _ _ h))))), ((and_right _ _ (and_left _ _ (and_left _ _ (and_left _ _ h)))), ((and_right _ _ (and_left _ _ (and_left _ _ h))), ((and_right _ _ (and_left _ _ h)), (and_right _ _ h)))))))))
    (then_rule refl (name_rule room more (12 ∷ 16 ∷ 18 ∷ 20 ∷ 21 ∷ 15 ∷ 14 ∷ [])) (λ _. then_rule refl (any_range_rule room more) (λ _. then_rule refl (any_equals_rule room more) (λ _. then_rule refl (any_at_rule room more) (λ _. then_rule refl (any_plus_equals_rule room more) (λ _. any_percent_equals_rule room more))))))

abbrev make_next_inst : RdlToken × RdlInst → RdlNextInst
make_next_inst p = record { comma = p.0; inst = p.1 }

pub next_inst_rule : (room more : ℕ) → Reading room more (15 ∷ []) (15 ∷ 14 ∷ []) (next_inst) (next_inst) (flat_next_inst) (Holds (fits_next_inst))
unfolding next_inst
next_inst_rule room more =
    as_rule make_next_inst (flat_next_inst) (Holds (fits_next_inst)) (λ p h. (refl, and_both _ _ h.0 h.1)) (λ x h. ((x.comma, x.inst), (refl, ((and_left _ _ h), (and_right _ _ h)))))
    (then_rule refl (comma_rule room more (4 ∷ [])) (λ _. inst_rule room more))

next_insts_rule : (room more : ℕ) → Reading room more (15 ∷ 14 ∷ []) (14 ∷ []) next_insts next_insts (flat_list flat_next_inst) (Holds (list_all fits_next_inst))
unfolding next_insts
next_insts_rule room more = each_rule (is_text (codes ",")) (15 ∷ []) (14 ∷ []) comma_sorted refl refl refl refl (λ a h. omega arith) (next_inst_rule room more)

abbrev make_insts : RdlInst × List RdlNextInst → RdlInsts
make_insts p = record { first = p.0; more = p.1 }

pub insts_rule : (room more : ℕ) → Reading room more (4 ∷ []) (14 ∷ []) (insts) (insts) (flat_insts) (Holds (fits_insts))
unfolding insts
insts_rule room more =
    as_rule make_insts (flat_insts) (Holds (fits_insts)) (λ p h. (refl, and_both _ _ h.0 h.1)) (λ x h. ((x.first, x.more), (refl, ((and_left _ _ h), (and_right _ _ h)))))
    (then_rule refl (inst_rule room more) (λ _. next_insts_rule room more))

abbrev make_entry_prop : RdlProp × RdlToken → RdlEntryProp
make_entry_prop p = record { prop = p.0; semi = p.1 }

pub entry_prop_rule : (room more : ℕ) → Reading room more (4 ∷ []) (4 ∷ 11 ∷ []) (entry_prop) (entry_prop) (flat_entry_prop) (Holds (fits_entry_prop))
unfolding entry_prop
entry_prop_rule room more =
    as_rule make_entry_prop (flat_entry_prop) (Holds (fits_entry_prop)) (λ p h. (refl, and_both _ _ h.0 h.1)) (λ x h. ((x.prop, x.semi), (refl, ((and_left _ _ h), (and_right _ _ h)))))
    (then_rule refl (prop_rule room more) (λ _. semi_rule room more (4 ∷ 11 ∷ [])))

entry_props_rule : (room more : ℕ) → Reading room more (4 ∷ 11 ∷ []) (11 ∷ []) entry_props entry_props (flat_list flat_entry_prop) (Holds (list_all fits_entry_prop))
unfolding entry_props
entry_props_rule room more = each_rule is_name (4 ∷ []) (11 ∷ []) name_sorted refl refl refl refl (λ a h. omega arith) (entry_prop_rule room more)

abbrev make_entry_body : RdlToken × (List RdlEntryProp × RdlToken) → RdlEntryBody
make_entry_body p = record { «open» = p.0; props = p.1.0; close = p.1.1 }

pub entry_body_rule : (room more : ℕ) → Reading room more (10 ∷ []) (14 ∷ []) (entry_body) (entry_body) (flat_entry_body) (Holds (fits_entry_body))
unfolding entry_body
entry_body_rule room more =
    as_rule make_entry_body (flat_entry_body) (Holds (fits_entry_body)) (λ p h. (refl, and_both _ _ (and_both _ _ h.0 h.1.0) h.1.1)) (λ x h. ((x.open, (x.props, x.close)), (refl, ((and_left _ _ (and_left _ _ h)), ((and_right _ _ (and_left _ _ h)), (and_right _ _ h))))))
    (then_rule refl (open_brace_rule room more (4 ∷ 11 ∷ [])) (λ _. then_rule refl (entry_props_rule room more) (λ _. close_brace_rule room more (14 ∷ []))))

any_body_rule : (room more : ℕ) → Reading room more (10 ∷ 14 ∷ []) (14 ∷ []) any_body any_body (flat_option flat_entry_body) (Holds (fits_option fits_entry_body))
unfolding any_body
any_body_rule room more = any_rule (is_text (codes "{")) (10 ∷ []) open_brace_sorted refl refl refl (entry_body_rule room more)

abbrev make_entry : RdlToken × (Option RdlMarked × (Option RdlEntryBody × RdlToken)) → RdlEntry
make_entry p = record { name = p.0; value = p.1.0; body = p.1.1.0; semi = p.1.1.1 }

pub entry_rule : (room more : ℕ) → Reading room more (4 ∷ []) (4 ∷ 11 ∷ []) (entry) (entry) (flat_entry) (Holds (fits_entry))
unfolding entry
entry_rule room more =
    as_rule make_entry (flat_entry) (Holds (fits_entry)) (λ p h. (simp append_assoc, and_both _ _ (and_both _ _ (and_both _ _ h.0 h.1.0) h.1.1.0) h.1.1.1)) (λ x h. ((x.name, (x.value, (x.body, x.semi))), (refl, ((and_left _ _ (and_left _ _ (and_left _ _ h))), ((and_right _ _ (and_left _ _ (and_left _ _ h))), ((and_right _ _ (and_left _ _ h)), (and_right _ _ h)))))))
    (then_rule refl (name_rule room more (16 ∷ 10 ∷ 14 ∷ [])) (λ _. then_rule refl (any_value_rule room more) (λ _. then_rule refl (any_body_rule room more) (λ _. semi_rule room more (4 ∷ 11 ∷ [])))))

entries_rule : (room more : ℕ) → Reading room more (4 ∷ 11 ∷ []) (11 ∷ []) entries entries (flat_list flat_entry) (Holds (list_all fits_entry))
unfolding entries
entries_rule room more = each_rule is_name (4 ∷ []) (11 ∷ []) name_sorted refl refl refl refl (λ a h. omega arith) (entry_rule room more)

abbrev make_enumeration : RdlToken × (RdlToken × (RdlToken × (List RdlEntry × (RdlToken × RdlToken)))) → RdlEnum
make_enumeration p = record { word = p.0; name = p.1.0; «open» = p.1.1.0; entries = p.1.1.1.0; close = p.1.1.1.1.0; semi = p.1.1.1.1.1 }

pub enumeration_rule : (room more : ℕ) (N : List ℕ) → Reading room more (34 ∷ []) (N) (enumeration) (enumeration) (flat_enum) (Holds (fits_enum))
unfolding enumeration
enumeration_rule room more N =
    as_rule make_enumeration (flat_enum) (Holds (fits_enum)) (λ p h. (refl, and_both _ _ (and_both _ _ (and_both _ _ (and_both _ _ (and_both _ _ h.0 h.1.0) h.1.1.0) h.1.1.1.0) h.1.1.1.1.0) h.1.1.1.1.1)) (λ x h. ((x.word, (x.name, (x.open, (x.entries, (x.close, x.semi))))), (refl, ((and_left _ _ (and_left _ _ (and_left _ _ (and_left _ _ (and_left _ _ h))))), ((and_right _ _ (and_left _ _ (and_left _ _ (and_left _ _ (and_left _ _ h))))), ((and_right _ _ (and_left _ _ (and_left _ _ (and_left _ _ h)))), ((and_right _ _ (and_left _ _ (and_left _ _ h))), ((and_right _ _ (and_left _ _ h)), (and_right _ _ h)))))))))
    (then_rule refl (enum_rule room more (4 ∷ [])) (λ _. then_rule refl (name_rule room more (10 ∷ [])) (λ _. then_rule refl (open_brace_rule room more (4 ∷ 11 ∷ [])) (λ _. then_rule refl (entries_rule room more) (λ _. then_rule refl (close_brace_rule room more (14 ∷ [])) (λ _. semi_rule room more N))))))

-- ---- the kind of a definition

kind_fits : (k : RdlKind) → Image Addrmap (Holds (is_text (codes "addrmap"))) k ⊎ (Image Regfile (Holds (is_text (codes "regfile"))) k ⊎ (Image Reg (Holds (is_text (codes "reg"))) k ⊎ Image Field (Holds (is_text (codes "field"))) k)) → fits_kind k ≡ true
kind_fits k (inl (t, (e, h))) = rw (← e) h
kind_fits k (inr (inl (t, (e, h)))) = rw (← e) h
kind_fits k (inr (inr (inl (t, (e, h))))) = rw (← e) h
kind_fits k (inr (inr (inr (t, (e, h))))) = rw (← e) h

fits_kinds : (k : RdlKind) → fits_kind k ≡ true → Image Addrmap (Holds (is_text (codes "addrmap"))) k ⊎ (Image Regfile (Holds (is_text (codes "regfile"))) k ⊎ (Image Reg (Holds (is_text (codes "reg"))) k ⊎ Image Field (Holds (is_text (codes "field"))) k))
fits_kinds (Addrmap t) h = inl (t, (refl, h))
fits_kinds (Regfile t) h = inr (inl (t, (refl, h)))
fits_kinds (Reg t) h = inr (inr (inl (t, (refl, h))))
fits_kinds (Field t) h = inr (inr (inr (t, (refl, h))))

abbrev pub one_kind : RdlKind → Tokens
one_kind k = flat_kind k ∷ []

pub kind_rule : (room more : ℕ) → Reading room more (30 ∷ 31 ∷ 32 ∷ 33 ∷ []) (4 ∷ 10 ∷ []) kind kind one_kind (Holds fits_kind)
unfolding kind
kind_rule room more =
    fitting_rule (Holds fits_kind) kind_fits fits_kinds
    (or_rule (is_text (codes "addrmap")) (30 ∷ []) addrmap_sorted refl refl refl (image_rule Addrmap one_kind (λ t h. refl) (addrmap_rule room more (4 ∷ 10 ∷ [])))
    (or_rule (is_text (codes "regfile")) (31 ∷ []) regfile_sorted refl refl refl (image_rule Regfile one_kind (λ t h. refl) (regfile_rule room more (4 ∷ 10 ∷ [])))
    (or_rule (is_text (codes "reg")) (32 ∷ []) reg_sorted refl refl refl (image_rule Reg one_kind (λ t h. refl) (reg_rule room more (4 ∷ 10 ∷ []))) (image_rule Field one_kind (λ t h. refl) (field_rule room more (4 ∷ 10 ∷ []))))))
