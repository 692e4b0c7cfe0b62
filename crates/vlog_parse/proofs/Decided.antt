-- What the tokens are decides what is answered: the cases exclude each other.
use Rattle.std.proofs.Common.{◌≡◌, inl, inr, true, false, [], ◌∷◌, ◌++◌, Result, Ok, Err, refl, sym, ◌∙◌, ap, append_assoc, arith}
use Rattle.std.specs.List.{list_any}
use Rattle.std.proofs.lemmas.List.Folds.{list_any-append}
use Rattle.bit_base.specs.declared.place.Place.{Place}
use Rattle.vlog_tree.specs.declared.fault.VlogCode.TheVariants.{VlogSyntax, VlogDeep, VlogLeftOut}
use Rattle.vlog_tree.specs.declared.fault.VlogFault.{VlogFault}
use Rattle.vlog_tree.specs.declared.fault.VlogFault.TheVariants.{NoMemory, At}
use Rattle.vlog_tree.specs.declared.token.VTokens.{VTokens}
use Rattle.vlog_tree.specs.declared.tree_modules.VlogFile.{VlogFile}
use Rattle.vlog_tree.specs.Terminals.{Tokens}
use Rattle.vlog_tree.specs.Modules.{IsReading}
use Rattle.vlog_tree.proofs.Theorem.{one_reading}
use Rattle.vlog_parse.specs.LeftOut.{is_left_out, HasLeftOut, HasNoneLeftOut, IsFirstLeftOut}
use Rattle.vlog_parse.specs.Depth.{IsWithin, IsOver, IsDeep, IsShallow, IsFirstDeep}
use Rattle.vlog_parse.specs.Refusal.{Answers, HasNoReading, IsTooDeepAt, IsNested, IsFlat, IsRefusedWith, IsReadAs}
use Rattle.vlog_parse.specs.Cut.{Tells}

pub has_and_none : (ts : Tokens) → HasLeftOut ts → HasNoneLeftOut ts → ⊥
has_and_none ts h n = let e : true ≡ false = sym h ∙ n in cc

pub first_is_left_out : (ts : Tokens) (place : Place) → IsFirstLeftOut ts place → HasLeftOut ts
first_is_left_out ts place first =
    ap (list_any is_left_out) first.split ∙ list_any-append is_left_out first.front (first.token ∷ first.more) ∙ rw (first.none, first.left_out) refl

pub over_not_within : (front : Tokens) → IsOver front → IsWithin front → ⊥
over_not_within front (inl over) within = let h = within.open_is in omega arith
over_not_within front (inr (inl over)) within = let h = within.unended_is in omega arith
over_not_within front (inr (inr over)) within = let h = within.elses_are in omega arith

deep_not_shallow : (ts : Tokens) → IsDeep ts → IsShallow ts → ⊥
deep_not_shallow ts (front, (more, (split, over))) shallow = over_not_within front over (shallow front more split)

first_is_deep : (ts : Tokens) (place : Place) → IsFirstDeep ts place → IsDeep ts
first_is_deep ts place first = (first.front ++ first.token ∷ [], (first.more, (first.split ∙ sym (append_assoc first.front (first.token ∷ []) first.more), first.over)))

pub when_left_out : (tokens : VTokens) (r : Result VlogFile VlogFault) → Answers tokens r → HasLeftOut tokens.list → IsRefusedWith VlogLeftOut r
when_left_out tokens (Ok file) h left_out = has_and_none tokens.list left_out h.1.0
when_left_out tokens (Err NoMemory) h left_out = tt
when_left_out tokens (Err (At VlogLeftOut place names path)) h left_out = refl
when_left_out tokens (Err (At VlogDeep place names path)) h left_out = absurd (has_and_none tokens.list left_out h.0.0)
when_left_out tokens (Err (At VlogSyntax place names path)) h left_out = absurd (has_and_none tokens.list left_out h.0.0)
when_left_out tokens (Err (At _ place names path)) h left_out = absurd h

pub when_deep : (tokens : VTokens) (r : Result VlogFile VlogFault) → Answers tokens r → HasNoneLeftOut tokens.list → IsDeep tokens.list → IsRefusedWith VlogDeep r
when_deep tokens (Ok file) h none deep = deep_not_shallow tokens.list deep h.1.1.0
when_deep tokens (Err NoMemory) h none deep = tt
when_deep tokens (Err (At VlogLeftOut place names path)) h none deep = absurd (has_and_none tokens.list (first_is_left_out tokens.list place h.0) none)
when_deep tokens (Err (At VlogDeep place names path)) h none deep = refl
when_deep tokens (Err (At VlogSyntax place names path)) h none deep = absurd (deep_not_shallow tokens.list deep h.0.1.0.0)
when_deep tokens (Err (At _ place names path)) h none deep = absurd h

pub when_nested : (tokens : VTokens) (r : Result VlogFile VlogFault) → Answers tokens r → HasNoneLeftOut tokens.list → IsShallow tokens.list → IsNested tokens.list → IsRefusedWith VlogDeep r
when_nested tokens (Ok file) h none shallow nested = h.1.1.1 nested
when_nested tokens (Err NoMemory) h none shallow nested = tt
when_nested tokens (Err (At VlogLeftOut place names path)) h none shallow nested = absurd (has_and_none tokens.list (first_is_left_out tokens.list place h.0) none)
when_nested tokens (Err (At VlogDeep place names path)) h none shallow nested = refl
when_nested tokens (Err (At VlogSyntax place names path)) h none shallow nested = absurd (h.0.1.0.1 nested)
when_nested tokens (Err (At _ place names path)) h none shallow nested = absurd h

pub too_deep_not_flat : (ts : Tokens) (place : Place) → IsTooDeepAt ts place → IsShallow ts → IsFlat ts → ⊥
too_deep_not_flat ts place (inl deep) shallow flat = deep_not_shallow ts (first_is_deep ts place deep) shallow
too_deep_not_flat ts place (inr nested) shallow flat = flat (place, nested.1)

pub when_unread : (tokens : VTokens) (r : Result VlogFile VlogFault) → Answers tokens r → HasNoneLeftOut tokens.list → IsShallow tokens.list → IsFlat tokens.list → HasNoReading tokens.list
    → IsRefusedWith VlogSyntax r
when_unread tokens (Ok file) h none shallow flat unread = unread file h.0
when_unread tokens (Err NoMemory) h none shallow flat unread = tt
when_unread tokens (Err (At VlogLeftOut place names path)) h none shallow flat unread = absurd (has_and_none tokens.list (first_is_left_out tokens.list place h.0) none)
when_unread tokens (Err (At VlogDeep place names path)) h none shallow flat unread = absurd (too_deep_not_flat tokens.list place h.0.1 shallow flat)
when_unread tokens (Err (At VlogSyntax place names path)) h none shallow flat unread = refl
when_unread tokens (Err (At _ place names path)) h none shallow flat unread = absurd h

pub when_read : (tokens : VTokens) (r : Result VlogFile VlogFault) → Answers tokens r → (file : VlogFile) → IsReading tokens.list file → HasNoneLeftOut tokens.list → IsShallow tokens.list
    → IsFlat tokens.list → IsReadAs file r
when_read tokens (Ok other) h file reading none shallow flat = one_reading other file h.0.fitting reading.fitting (h.0.same_tokens ∙ sym reading.same_tokens)
when_read tokens (Err NoMemory) h file reading none shallow flat = tt
when_read tokens (Err (At VlogLeftOut place names path)) h file reading none shallow flat = absurd (has_and_none tokens.list (first_is_left_out tokens.list place h.0) none)
when_read tokens (Err (At VlogDeep place names path)) h file reading none shallow flat = absurd (too_deep_not_flat tokens.list place h.0.1 shallow flat)
when_read tokens (Err (At VlogSyntax place names path)) h file reading none shallow flat = absurd (h.0.1.1.0 file reading)
when_read tokens (Err (At _ place names path)) h file reading none shallow flat = absurd h

-- why the rows stop, where nothing is left out and not too much is open or runs on
pub told : (tokens : VTokens) (r : Result VlogFile VlogFault) → HasNoneLeftOut tokens.list → IsShallow tokens.list → Tells tokens r → Answers tokens r
told tokens (Ok file) none shallow h = (h.0, (none, (shallow, h.1)))
told tokens (Err NoMemory) none shallow h = tt
told tokens (Err (At VlogDeep place names path)) none shallow h = ((none, inr (shallow, h.0)), h.1)
told tokens (Err (At VlogSyntax place names path)) none shallow h = ((none, ((shallow, h.0.0), h.0.1)), h.1)
told tokens (Err (At _ place names path)) none shallow h = absurd h
