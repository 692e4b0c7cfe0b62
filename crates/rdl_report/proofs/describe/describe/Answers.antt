use Rattle.rdl_report.proofs.describe.describe.Goals as goal

pub returns-clause-map : goal.returns-clause-map
returns-clause-map c = record {
  file = c.in_ok-file.file;
  tree = record { tokens = c.in_ok-tokens.tokens; scanned = c.in_ok-tokens.ensures.tokens; read = c.in_ok-file.ensures.reading; shallow = c.in_ok-file.ensures.not_too_deep };
  fine = c.in_ok-map.ensures.fine;
  map = c.in_ok-map.map;
  is = c.in_ok-map.ensures.map;
  report = c.in_ok-text.ensures;
}
