-- Over whole lists: what choices drive is a legal master, and each legal master is driven.
use Rattle.std.proofs.Common.{◌≡◌, ℕ, zero, suc, ◌^◌, ◌<◌, Bool, false, List, [], ◌∷◌, map, take, inl, inr, refl, sym, ◌∙◌, ap}
use Rattle.std.specs.Prelude.{⊤}
use Rattle.std.specs.List.{All}
use Rattle.std.proofs.lemmas.Bool.{cases_Bool, true≢false}
use Rattle.std.proofs.lemmas.List.Elements.{All-nil, All-cons, All-head, All-tail}
use Rattle.apb_rules.specs.declared.style.BusStyle.{BusStyle}
use Rattle.apb_rules.specs.declared.wires.BusWires.{BusWires}
use Rattle.apb_rules.specs.declared.phase.Phase.{Phase}
use Rattle.apb_rules.specs.declared.phase.Phase.TheVariants.{Free, Access}
use Rattle.apb_rules.specs.Lines.{strobe_line, prot_line}
use Rattle.apb_rules.specs.Phases.{phase_after}
use Rattle.apb_rules.specs.Drive.{idle}
use Rattle.apb_rules.specs.Legal.{IsIdle, IsLegalIn}
use Rattle.apb_rules.specs.Master.{BusEdge, Traffic, IsLegalMaster, IsLegalFrom}
use Rattle.apb_rules.specs.Moves.{Move, FitsBus, choice_of, move_of, calm, edges_of}
use Rattle.apb_rules.proofs.Edges.{drives_legal, legal_is_driven, idle_again, idle_fits, strobe_line-fits, prot_line-fits}
use Rattle.apb_rules.proofs.Lists.{legal_is_traffic, traffic_is_legal}

module _ (style : BusStyle) (bytes : ℕ) where
  abbrev Fits : Move → Type 0
  Fits move = FitsBus bytes move.choice

  driven_from : (moves : List Move) (phase : Phase) → All Fits moves
      → IsLegalFrom style bytes phase (edges_of style bytes phase moves)
  driven_from [] phase fits = tt
  driven_from (move ∷ moves) phase fits = (
    drives_legal style bytes phase move.choice (All-head Fits move moves fits),
    driven_from moves _ (All-tail Fits move moves fits),
  )

  calm_is_idle : (move : Move) → Fits move → IsIdle style bytes (idle style bytes move.choice)
  calm_is_idle move fits = record { not_selected = refl; lines = idle_fits style bytes move.choice fits }

  pub driven_is_master : (resets : ℕ) (moves : List Move) → All Fits moves
      → IsLegalMaster style bytes resets (edges_of style bytes Free (calm resets moves))
  driven_is_master zero moves fits = record {
    at_reset = All-nil (λ edge. IsIdle style bytes edge.wires);
    after_reset = legal_is_traffic style bytes _ (driven_from moves Free fits);
  }
  driven_is_master (suc resets) [] fits = record {
    at_reset = All-nil (λ edge. IsIdle style bytes edge.wires);
    after_reset = Traffic.nothing;
  }
  driven_is_master (suc resets) (move ∷ moves) fits =
      let later : IsLegalMaster style bytes resets (edges_of style bytes Free (calm resets moves)) =
      driven_is_master resets moves (All-tail Fits move moves fits) in
      record {
        at_reset = All-cons (λ edge. IsIdle style bytes edge.wires) _ _
            (calm_is_idle move (All-head Fits move moves fits)) later.at_reset;
        after_reset = later.after_reset;
      }

  driven_again : (edges : List BusEdge) (phase : Phase) → IsLegalFrom style bytes phase edges
      → edges_of style bytes phase (map move_of edges) ≡ edges
  driven_again [] phase legal = refl
  driven_again (edge ∷ edges) phase legal =
      rw (legal_is_driven style bytes phase edge.wires legal.0) (ap (λ rest. edge ∷ rest) (driven_again edges _ legal.1))

  cons_again : (wires : BusWires) (edge : BusEdge) (edges same : List BusEdge) → wires ≡ edge.wires → edges ≡ same
      → record { wires = wires; ready = edge.ready } ∷ edges ≡ edge ∷ same
  cons_again wires edge edges same first rest = λ i. record { wires = first i; ready = edge.ready } ∷ rest i

  pub master_is_driven : (resets : ℕ) (edges : List BusEdge) → IsLegalMaster style bytes resets edges
      → edges_of style bytes Free (calm resets (map move_of edges)) ≡ edges
  master_is_driven zero edges legal = driven_again edges Free (traffic_is_legal style bytes edges legal.after_reset)
  master_is_driven (suc resets) [] legal = refl
  master_is_driven (suc resets) (edge ∷ edges) legal =
      cons_again _ edge _ edges (idle_again style bytes edge.wires
      (All-head (λ edge. IsIdle style bytes edge.wires) edge (take resets edges) legal.at_reset))
      (master_is_driven resets edges (record {
        at_reset = All-tail (λ edge. IsIdle style bytes edge.wires) edge (take resets edges) legal.at_reset;
        after_reset = legal.after_reset;
      }))

  -- the phase of a legal master holds what the lines can carry
  abbrev FitsPhase : Phase → Type 0
  FitsPhase Free = ⊤
  FitsPhase (Access held) = (strobe_line style bytes held.strobe < 2 ^ bytes) × (prot_line style held.prot < 8)

  wires_fit : (phase : Phase) (wires : BusWires) → FitsPhase phase → IsLegalIn style bytes phase wires
      → FitsBus bytes (choice_of wires)
  wires_fit Free wires fits (inl is_idle) = record { strobe_fits = is_idle.lines.strobe_fits; prot_fits = is_idle.lines.prot_fits }
  wires_fit Free wires fits (inr is_setup) = record { strobe_fits = is_setup.lines.strobe_fits; prot_fits = is_setup.lines.prot_fits }
  wires_fit (Access held) wires fits is_access = record {
    strobe_fits = rw is_access.same_strobe fits.0;
    prot_fits = rw is_access.same_prot fits.1;
  }

  phase_fits : (phase : Phase) (wires : BusWires) (ready : Bool) → FitsPhase phase → FitsBus bytes (choice_of wires)
      → FitsPhase (phase_after phase wires ready)
  phase_fits Free wires ready fits wires_fit = elim (cases_Bool wires.select) [
    | inl on ↦ rw on (strobe_line-fits style bytes wires.strobe wires_fit.strobe_fits, prot_line-fits style bytes wires.prot wires_fit.prot_fits)
    | inr off ↦ rw off tt
  ]
  phase_fits (Access held) wires ready fits wires_fit = elim (cases_Bool ready) [
    | inl on ↦ rw on tt
    | inr off ↦ rw off fits
  ]

  edges_fit : (edges : List BusEdge) (phase : Phase) → FitsPhase phase → IsLegalFrom style bytes phase edges
      → All Fits (map move_of edges)
  edges_fit [] phase fits legal = All-nil Fits
  edges_fit (edge ∷ edges) phase fits legal =
      let first : FitsBus bytes (choice_of edge.wires) = wires_fit phase edge.wires fits legal.0 in
      All-cons Fits (move_of edge) (map move_of edges) first
      (edges_fit edges _ (phase_fits phase edge.wires edge.ready fits first) legal.1)

  pub master_is_legal : (resets : ℕ) (edges : List BusEdge) → IsLegalMaster style bytes resets edges
      → IsLegalFrom style bytes Free edges
  master_is_legal zero edges legal = traffic_is_legal style bytes edges legal.after_reset
  master_is_legal (suc resets) [] legal = tt
  master_is_legal (suc resets) (edge ∷ edges) legal =
      let first : IsIdle style bytes edge.wires =
      All-head (λ edge. IsIdle style bytes edge.wires) edge (take resets edges) legal.at_reset in
      let rest : IsLegalFrom style bytes Free edges = master_is_legal resets edges (record {
        at_reset = All-tail (λ edge. IsIdle style bytes edge.wires) edge (take resets edges) legal.at_reset;
        after_reset = legal.after_reset;
      }) in
      (inl first, rw first.not_selected rest)

  unselected_is_idle : (wires : BusWires) → wires.select ≡ false → IsLegalIn style bytes Free wires
      → IsIdle style bytes wires
  unselected_is_idle wires off (inl is_idle) = is_idle
  unselected_is_idle wires off (inr is_setup) = absurd (true≢false (sym is_setup.selected ∙ off))

  pub master_unselected : (resets : ℕ) (edges : List BusEdge) → IsLegalMaster style bytes resets edges
      → All (λ edge. edge.wires.select ≡ false) (take resets edges)
  master_unselected resets edges legal = λ k d below. (legal.at_reset k d below).not_selected

  pub legal_is_master : (resets : ℕ) (edges : List BusEdge)
      → All (λ edge. edge.wires.select ≡ false) (take resets edges) → IsLegalFrom style bytes Free edges
      → IsLegalMaster style bytes resets edges
  legal_is_master zero edges calm legal = record {
    at_reset = All-nil (λ edge. IsIdle style bytes edge.wires);
    after_reset = legal_is_traffic style bytes edges legal;
  }
  legal_is_master (suc resets) [] calm legal = record {
    at_reset = All-nil (λ edge. IsIdle style bytes edge.wires);
    after_reset = Traffic.nothing;
  }
  legal_is_master (suc resets) (edge ∷ edges) calm legal =
      let not_selected : edge.wires.select ≡ false =
      All-head (λ edge. edge.wires.select ≡ false) edge (take resets edges) calm in
      let rest : IsLegalFrom style bytes Free edges = rw not_selected at legal.1 in
      let later : IsLegalMaster style bytes resets edges = legal_is_master resets edges
      (All-tail (λ edge. edge.wires.select ≡ false) edge (take resets edges) calm) rest in
      record {
        at_reset = All-cons (λ edge. IsIdle style bytes edge.wires) edge (take resets edges)
            (unselected_is_idle edge.wires not_selected legal.0) later.at_reset;
        after_reset = later.after_reset;
      }

  pub master_fits : (resets : ℕ) (edges : List BusEdge) → IsLegalMaster style bytes resets edges
      → All Fits (map move_of edges)
  master_fits resets edges legal = edges_fit edges Free tt (master_is_legal resets edges legal)
