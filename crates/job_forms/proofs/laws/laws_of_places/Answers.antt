use Rattle.job_forms.proofs.PlaceLists.{covered_places, cut_alone, places_covered, places_distinct, places_metas, places_rising}
use Rattle.job_forms.proofs.laws.laws_of_places.Goals as goal

pub returns-clause-metatiles : goal.returns-clause-metatiles
returns-clause-metatiles _ c job k valid of not = (places_covered c job k valid of, covered_places c job k valid of not)

pub returns-clause-metas : goal.returns-clause-metas
returns-clause-metas _ c job k valid of h = places_metas c job k valid of h

pub returns-clause-cut : goal.returns-clause-cut
returns-clause-cut _ c job e = cut_alone c job.kind job.cover e

pub returns-clause-once : goal.returns-clause-once
returns-clause-once _ c job = places_distinct c job

pub returns-clause-order : goal.returns-clause-order
returns-clause-order _ c job i j a b l e d = places_rising c job i j a b l e d
