use Rattle.std.proofs.Common.{rules, ◌≡◌, true, sym, ◌∙◌}
use Rattle.served_covers.proofs.Values.{each_value, each_wanted}
use Rattle.served_covers.proofs.of_catalogue.is_cover_of.Goals as goal

pub returns-then-not-has_values : goal.returns-then-not-has_values
returns-then-not-has_values c = (
  λ e. absurd (cc),
  λ is.
      let there : c.has_values.result ≡ true = c.has_values.ensures.1 (each_wanted c.args.catalogue.now c.args.cover.now.layer c.args.cover.now.filter.dims is.values) in
      sym c.if-not-has_values.true ∙ there,
)

pub returns : goal.returns
returns c = (
  λ e. record {
    grid = c.is_served.ensures.0 c.if-not-is_served.false;
    z_start = search rules;
    z_stop = search rules;
    style = c.has_style.ensures.0 c.if-not-has_style.false;
    values = each_value c.args.catalogue.now c.args.cover.now.layer c.args.cover.now.filter.dims (c.has_values.ensures.0 c.if-not-has_values.false);
    reach = c.is_within_reach.ensures.0 e;
  },
  λ is. c.is_within_reach.ensures.1 is.reach,
)
