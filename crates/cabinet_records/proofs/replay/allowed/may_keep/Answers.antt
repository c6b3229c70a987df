use Rattle.std.proofs.Common.{arith}
use Rattle.cabinet_records.proofs.Allowing.{others_count}
use Rattle.cabinet_records.proofs.replay.allowed.may_keep.Goals as goal

pub returns-then-count_others-catalogue : goal.returns-then-count_others-catalogue
returns-then-count_others-catalogue c = (
  λ e. absurd (cc),
  λ may.
      let few = may.few in
      absurd (omega (arith, few, c.if-count_others-catalogue.true, c.count_others.ensures, others_count c.args.kept.now.meta c.args.progress.now.store.blobs)),
)

pub returns : goal.returns
returns c =
    let count = others_count c.args.kept.now.meta c.args.progress.now.store.blobs in (
      λ is. record {
        meta = c.is_meta.ensures.0 (cc (c.if-not-is_meta.false));
        size = cc (c.if-kept-blob_size.false, c.blob_size.ensures);
        given = c.is_given.ensures.0 (cc (c.if-not-is_given.false));
        above_floor = omega (arith, c.if-kept-progress.false);
        own = c.is_own.ensures.0 (cc (c.if-not-is_own.false));
        newer = c.is_newer.ensures.0 is;
        few = omega (arith, c.if-count_others-catalogue.false, c.count_others.ensures, count);
      },
      λ may. c.is_newer.ensures.1 may.newer,
    )
