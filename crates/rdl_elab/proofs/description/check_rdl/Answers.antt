use Rattle.rdl_elab.specs.Refusals.{IsName, IsProperty, IsValue, IsPlace, IsSize}
use Rattle.rdl_elab.proofs.Firsts.{is_first, has_none}
use Rattle.rdl_elab.proofs.description.check_rdl.Goals as goal

pub returns-in-Some-clause-refused : goal.returns-in-Some-clause-refused
returns-in-Some-clause-refused c = is_first IsName c.args.file.now _ _ c.in_ok-names.ensures c.in-Some.is

pub returns-in-Some-properties-clause-refused : goal.returns-in-Some-properties-clause-refused
returns-in-Some-properties-clause-refused c =
    (has_none IsName c.args.file.now _ c.in_ok-names.ensures c.in_default.is, is_first IsProperty c.args.file.now _ _ c.in_ok-properties.ensures c.in-Some-properties.is)

pub returns-in-Some-values-clause-refused : goal.returns-in-Some-values-clause-refused
returns-in-Some-values-clause-refused c = (
  has_none IsName c.args.file.now _ c.in_ok-names.ensures c.in_default.is,
  has_none IsProperty c.args.file.now _ c.in_ok-properties.ensures c.in_default-properties.is,
  is_first IsValue c.args.file.now _ _ c.in_ok-values.ensures c.in-Some-values.is,
)

pub returns-in-Some-places-clause-refused : goal.returns-in-Some-places-clause-refused
returns-in-Some-places-clause-refused c = (
  has_none IsName c.args.file.now _ c.in_ok-names.ensures c.in_default.is,
  has_none IsProperty c.args.file.now _ c.in_ok-properties.ensures c.in_default-properties.is,
  has_none IsValue c.args.file.now _ c.in_ok-values.ensures c.in_default-values.is,
  is_first IsPlace c.args.file.now _ _ c.in_ok-places.ensures c.in-Some-places.is,
)

pub returns-in-Some-sizes-clause-refused : goal.returns-in-Some-sizes-clause-refused
returns-in-Some-sizes-clause-refused c = (
  has_none IsName c.args.file.now _ c.in_ok-names.ensures c.in_default.is,
  has_none IsProperty c.args.file.now _ c.in_ok-properties.ensures c.in_default-properties.is,
  has_none IsValue c.args.file.now _ c.in_ok-values.ensures c.in_default-values.is,
  has_none IsPlace c.args.file.now _ c.in_ok-places.ensures c.in_default-places.is,
  is_first IsSize c.args.file.now _ _ c.in_ok-sizes.ensures c.in-Some-sizes.is,
)

pub returns-clause-fine : goal.returns-clause-fine
returns-clause-fine c = record {
  names = has_none IsName c.args.file.now _ c.in_ok-names.ensures c.in_default.is;
  properties = has_none IsProperty c.args.file.now _ c.in_ok-properties.ensures c.in_default-properties.is;
  values = has_none IsValue c.args.file.now _ c.in_ok-values.ensures c.in_default-values.is;
  places = has_none IsPlace c.args.file.now _ c.in_ok-places.ensures c.in_default-places.is;
  sizes = has_none IsSize c.args.file.now _ c.in_ok-sizes.ensures c.in_default-sizes.is;
}
