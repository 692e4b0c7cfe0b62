-- What holds at one edge: driven wires are legal, and legal wires are driven.
use Rattle.std.proofs.Common.{◌≡◌, ℕ, ◌-◌, ◌*◌, ◌/◌, ◌%◌, ◌^◌, ◌<◌, Bool, false, inl, inr, if◌then◌else◌, refl, sym, ◌∙◌, arith}
use Rattle.std.proofs.lemmas.Bool.{cases_Bool}
use Rattle.std.proofs.lemmas.Nat.{pow_pos}
use Rattle.std.proofs.Math.Pow.{pow-sub-lt}
use Rattle.std.proofs.Math.Nat.{mod-add-div, mul-mod_right}
use Rattle.apb_rules.specs.declared.style.BusStyle.{BusStyle}
use Rattle.apb_rules.specs.declared.wires.BusWires.{BusWires}
use Rattle.apb_rules.specs.declared.wires.Choice.{Choice}
use Rattle.apb_rules.specs.declared.phase.Phase.{Phase}
use Rattle.apb_rules.specs.declared.phase.Phase.TheVariants.{Free, Access}
use Rattle.apb_rules.specs.Lines.{strobe_line, prot_line}
use Rattle.apb_rules.specs.Drive.{driven, idle, setup}
use Rattle.apb_rules.specs.Legal.{FitsLines, IsIdle, IsSetup, IsLegalIn}
use Rattle.apb_rules.specs.Moves.{FitsBus, choice_of}

-- an address less its remainder is a multiple
pub aligned : (address bytes : ℕ) → (address - address % bytes) % bytes ≡ 0
aligned address bytes =
    let whole : address - address % bytes ≡ bytes * (address / bytes) =
    omega (arith, mod-add-div address bytes) in
    rw whole (mul-mod_right bytes (address / bytes))

if_not : (test : Bool) (first second : BusWires) → test ≡ false → (if test then first else second) ≡ second
if_not test first second off = rw off refl

module _ (style : BusStyle) (bytes : ℕ) where
  pub strobe_line-fits : (strobe : ℕ) → strobe < 2 ^ bytes → strobe_line style bytes strobe < 2 ^ bytes
  strobe_line-fits strobe fits = elim (cases_Bool style.strobe) [
    | inl on ↦ rw on fits
    | inr off ↦ rw off (pow-sub-lt bytes (omega arith))
  ]

  pub prot_line-fits : (prot : ℕ) → prot < 8 → prot_line style prot < 8
  prot_line-fits prot fits = elim (cases_Bool style.prot) [
    | inl on ↦ rw on fits
    | inr off ↦ rw off (omega arith)
  ]

  pub idle_fits : (choice : Choice) → FitsBus bytes choice → FitsLines style bytes (idle style bytes choice)
  idle_fits choice fits = record {
    strobe_fits = strobe_line-fits choice.strobe fits.strobe_fits;
    prot_fits = prot_line-fits choice.prot fits.prot_fits;
    no_strobe = λ off. rw off refl;
    no_prot = λ off. rw off refl;
  }

  setup_fits : (choice : Choice) → FitsBus bytes choice → FitsLines style bytes (setup style bytes choice)
  setup_fits choice fits = record {
    strobe_fits = elim (cases_Bool choice.write) [
      | inl w ↦ rw w (strobe_line-fits choice.strobe fits.strobe_fits)
      | inr r ↦ rw r (strobe_line-fits 0 (pow_pos bytes))
    ];
    prot_fits = prot_line-fits choice.prot fits.prot_fits;
    no_strobe = λ off. rw off refl;
    no_prot = λ off. rw off refl;
  }

  setup_is_setup : (choice : Choice) → FitsBus bytes choice → IsSetup style bytes (setup style bytes choice)
  setup_is_setup choice fits = record {
    selected = refl;
    not_enabled = refl;
    aligned = aligned choice.address bytes;
    no_strobe_in_read = λ on read. rw (on, read) refl;
    lines = setup_fits choice fits;
  }

  pub drives_legal : (phase : Phase) (choice : Choice) → FitsBus bytes choice
      → IsLegalIn style bytes phase (driven style bytes phase choice)
  drives_legal Free choice fits = elim (cases_Bool choice.start) [
    | inl on ↦ rw on (inr (setup_is_setup choice fits))
    | inr off ↦ rw off (inl (record { not_selected = refl; lines = idle_fits choice fits }))
  ]
  drives_legal (Access held) choice fits = record {
    selected = refl;
    enabled = refl;
    same_write = refl;
    same_address = refl;
    same_data = λ write. rw write refl;
    same_strobe = refl;
    same_prot = refl;
  }

  pub strobe_line-same : (wires : BusWires) → FitsLines style bytes wires → strobe_line style bytes wires.strobe ≡ wires.strobe
  strobe_line-same wires lines = elim (cases_Bool style.strobe) [
    | inl on ↦ rw on refl
    | inr off ↦ rw off (sym (lines.no_strobe off))
  ]

  prot_line-same : (wires : BusWires) → FitsLines style bytes wires → prot_line style wires.prot ≡ wires.prot
  prot_line-same wires lines = elim (cases_Bool style.prot) [
    | inl on ↦ rw on refl
    | inr off ↦ rw off (sym (lines.no_prot off))
  ]

  setup_strobe : (wires : BusWires) → IsSetup style bytes wires
      → strobe_line style bytes (if wires.write then wires.strobe else 0) ≡ wires.strobe
  setup_strobe wires is_setup = elim (cases_Bool wires.write) [
    | inl write ↦ rw write (strobe_line-same wires is_setup.lines)
    | inr read ↦ rw read (elim (cases_Bool style.strobe) [
      | inl on ↦ rw on (sym (is_setup.no_strobe_in_read on read))
      | inr off ↦ rw off (sym (is_setup.lines.no_strobe off))
    ])
  ]

  same_wires : (a b : BusWires) → a.select ≡ b.select → a.enable ≡ b.enable → a.write ≡ b.write
      → a.address ≡ b.address → a.payload ≡ b.payload → a.strobe ≡ b.strobe → a.prot ≡ b.prot → a ≡ b
  same_wires a b select enable write address payload strobe prot = λ i. record {
    select = select i;
    enable = enable i;
    write = write i;
    address = address i;
    payload = payload i;
    strobe = strobe i;
    prot = prot i;
  }

  pub idle_again : (wires : BusWires) → IsIdle style bytes wires
      → idle style bytes (choice_of wires) ≡ wires
  idle_again wires is_idle = same_wires _ _ (sym is_idle.not_selected) refl refl refl refl
      (strobe_line-same wires is_idle.lines) (prot_line-same wires is_idle.lines)

  pub legal_is_driven : (phase : Phase) (wires : BusWires) → IsLegalIn style bytes phase wires
      → driven style bytes phase (choice_of wires) ≡ wires
  legal_is_driven Free wires (inl is_idle) =
      if_not wires.select _ _ is_idle.not_selected ∙ idle_again wires is_idle
  legal_is_driven Free wires (inr is_setup) = rw is_setup.selected
      (same_wires _ _ refl (sym is_setup.not_enabled) refl
      (omega (arith, is_setup.aligned)) refl
      (setup_strobe wires is_setup) (prot_line-same wires is_setup.lines))
  legal_is_driven (Access held) wires is_access =
      same_wires _ _ (sym is_access.selected) (sym is_access.enabled) (sym is_access.same_write)
      (sym is_access.same_address)
      (elim (cases_Bool held.write) [ inl write ↦ rw write (sym (is_access.same_data write)) | inr read ↦ rw read refl ])
      (sym is_access.same_strobe) (sym is_access.same_prot)
