-- What a refusal says, code by code.
use Rattle.std.proofs.Common.{◌≡◌, ◌⊎◌, inl, inr, refl, sym, subst}
use Rattle.bit_base.specs.declared.place.Place.{Place}
use Rattle.rdl_tree.specs.declared.fault.RdlCode.TheVariants.{RdlByte, RdlSyntax, RdlDeep, RdlName, RdlProperty, RdlValue, RdlPlace, RdlSize, NoReset}
use Rattle.rdl_tree.specs.declared.fault.RdlFault.{RdlFault}
use Rattle.rdl_tree.specs.declared.fault.RdlFault.TheVariants.{NoMemory, At}
use Rattle.rdl_tree.specs.declared.token.RdlTokens.{RdlTokens}
use Rattle.rdl_parse.specs.Depth.{IsShallow, IsFirstDeep}
use Rattle.rdl_parse.specs.Refusal.{Refuses, OnCode, IsOfReader, HasNoReading, IsFirstFault}

at_code : (tokens : RdlTokens) (fault : RdlFault) → Refuses tokens fault → (place : Place) → fault ≡ At RdlSyntax place → IsShallow tokens.list × (HasNoReading tokens × IsFirstFault tokens place)
at_code tokens fault h place e = subst (Refuses tokens) e h

pub deep_fault : (tokens : RdlTokens) (fault : RdlFault) → Refuses tokens fault → OnCode RdlDeep (IsFirstDeep tokens.list) fault
deep_fault tokens fault h place e = subst (Refuses tokens) e h

pub shallow_fault : (tokens : RdlTokens) (fault : RdlFault) → Refuses tokens fault → OnCode RdlSyntax (λ _. IsShallow tokens.list) fault
shallow_fault tokens fault h place e = (at_code tokens fault h place e).0

pub unread_fault : (tokens : RdlTokens) (fault : RdlFault) → Refuses tokens fault → OnCode RdlSyntax (λ _. HasNoReading tokens) fault
unread_fault tokens fault h place e = (at_code tokens fault h place e).1.0

pub first_of_faults : (tokens : RdlTokens) (fault : RdlFault) → Refuses tokens fault → OnCode RdlSyntax (IsFirstFault tokens) fault
first_of_faults tokens fault h place e = (at_code tokens fault h place e).1.1

pub reader_fault : (tokens : RdlTokens) (fault : RdlFault) → Refuses tokens fault → IsOfReader fault
reader_fault tokens NoMemory h = inl refl
reader_fault tokens (At RdlDeep place) h = inr (place, inl refl)
reader_fault tokens (At RdlSyntax place) h = inr (place, inr refl)
reader_fault tokens (At RdlByte place) h = absurd h
reader_fault tokens (At RdlName place) h = absurd h
reader_fault tokens (At RdlProperty place) h = absurd h
reader_fault tokens (At RdlValue place) h = absurd h
reader_fault tokens (At RdlPlace place) h = absurd h
reader_fault tokens (At RdlSize place) h = absurd h
reader_fault tokens (At NoReset place) h = absurd h
