use Rattle.composite_requests.proofs.routes.of_texts.Goals as goal

pub returns-clause-value : goal.returns-clause-value
returns-clause-value c =
    rw (c.bytes.ensures, c.bytes-2.ensures, c.bytes-3.ensures, c.bytes-4.ensures, c.in_ok-name.ensures, c.in_ok-z.ensures, c.in_ok-row.ensures, c.in_ok-col.ensures) at c.of_recipe.ensures.value
