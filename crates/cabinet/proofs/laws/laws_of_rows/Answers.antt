use Rattle.cabinet.proofs.Rows.{abandons_known, asks_fresh, asks_known, busy_runs, cuts_known, expires_known, finishes_known, forces_fresh, forces_known, saves_known}
use Rattle.cabinet.proofs.laws.laws_of_rows.Goals as goal

pub returns : goal.returns
returns c = record {
  asks = asks_known;
  forces = forces_known;
  finishes = finishes_known;
  abandons = abandons_known;
  cuts = cuts_known;
  expires = expires_known;
  saves = saves_known;
  busy = busy_runs;
  asks_fresh = asks_fresh;
  forces_fresh = forces_fresh;
}
