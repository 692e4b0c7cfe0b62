-- What a refusal says, code by code.
use Rattle.std.proofs.Common.{◌≡◌, inl, inr, [], refl, subst}
use Rattle.bit_base.specs.declared.place.Place.{Place}
use Rattle.vlog_tree.specs.declared.fault.VlogCode.TheVariants.{VlogSyntax, VlogDeep, VlogLeftOut}
use Rattle.vlog_tree.specs.declared.fault.VlogFault.{VlogFault}
use Rattle.vlog_tree.specs.declared.fault.VlogFault.TheVariants.{NoMemory, At}
use Rattle.vlog_tree.specs.declared.token.VTokens.{VTokens}
use Rattle.vlog_parse.specs.LeftOut.{HasNoneLeftOut, IsFirstLeftOut}
use Rattle.vlog_parse.specs.Depth.{IsShallow}
use Rattle.vlog_parse.specs.Refusal.{Refuses, OnCode, IsOfReader, HasNoReading, IsFirstFault, IsTooDeepAt, IsFlat}

-- the cases of a refusal, where the code is known
left_out_of : (tokens : VTokens) (fault : VlogFault) → Refuses tokens fault → (place : Place) → fault ≡ At VlogLeftOut place [] [] → IsFirstLeftOut tokens.list place
left_out_of tokens fault h place e = (subst (Refuses tokens) e h).0

deep_of : (tokens : VTokens) (fault : VlogFault) → Refuses tokens fault → (place : Place) → fault ≡ At VlogDeep place [] [] → HasNoneLeftOut tokens.list × IsTooDeepAt tokens.list place
deep_of tokens fault h place e = (subst (Refuses tokens) e h).0

syntax_of : (tokens : VTokens) (fault : VlogFault) → Refuses tokens fault → (place : Place) → fault ≡ At VlogSyntax place [] []
    → HasNoneLeftOut tokens.list × ((IsShallow tokens.list × IsFlat tokens.list) × (HasNoReading tokens.list × IsFirstFault tokens place))
syntax_of tokens fault h place e = (subst (Refuses tokens) e h).0

pub left_out_fault : (tokens : VTokens) (fault : VlogFault) → Refuses tokens fault → OnCode VlogLeftOut (IsFirstLeftOut tokens.list) fault
left_out_fault tokens fault h place e = left_out_of tokens fault h place e

pub deep_fault : (tokens : VTokens) (fault : VlogFault) → Refuses tokens fault → OnCode VlogDeep (IsTooDeepAt tokens.list) fault
deep_fault tokens fault h place e = (deep_of tokens fault h place e).1

pub left_out_first_of_deep : (tokens : VTokens) (fault : VlogFault) → Refuses tokens fault → OnCode VlogDeep (λ _. HasNoneLeftOut tokens.list) fault
left_out_first_of_deep tokens fault h place e = (deep_of tokens fault h place e).0

pub left_out_first_of_syntax : (tokens : VTokens) (fault : VlogFault) → Refuses tokens fault → OnCode VlogSyntax (λ _. HasNoneLeftOut tokens.list) fault
left_out_first_of_syntax tokens fault h place e = (syntax_of tokens fault h place e).0

pub shallow_fault : (tokens : VTokens) (fault : VlogFault) → Refuses tokens fault → OnCode VlogSyntax (λ _. IsShallow tokens.list × IsFlat tokens.list) fault
shallow_fault tokens fault h place e = (syntax_of tokens fault h place e).1.0

pub unread_fault : (tokens : VTokens) (fault : VlogFault) → Refuses tokens fault → OnCode VlogSyntax (λ _. HasNoReading tokens.list) fault
unread_fault tokens fault h place e = (syntax_of tokens fault h place e).1.1.0

pub first_of_faults : (tokens : VTokens) (fault : VlogFault) → Refuses tokens fault → OnCode VlogSyntax (IsFirstFault tokens) fault
first_of_faults tokens fault h place e = (syntax_of tokens fault h place e).1.1.1

pub reader_fault : (tokens : VTokens) (fault : VlogFault) → Refuses tokens fault → IsOfReader fault
reader_fault tokens NoMemory h = inl refl
reader_fault tokens (At VlogLeftOut place names path) h = inr (place, inl (rw (h.1.0, h.1.1) refl))
reader_fault tokens (At VlogDeep place names path) h = inr (place, inr (inl (rw (h.1.0, h.1.1) refl)))
reader_fault tokens (At VlogSyntax place names path) h = inr (place, inr (inr (rw (h.1.0, h.1.1) refl)))
reader_fault tokens (At _ place names path) h = absurd h
