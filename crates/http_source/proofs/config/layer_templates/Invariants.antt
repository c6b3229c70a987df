use Rattle.std.proofs.Common.{◌≡◌, length, take}
use Rattle.http_source.specs.Configs.{AreTemplates}
use Rattle.http_source.proofs.config.layer_templates.Given as goal

-- those of the entries so far are read
abbrev pub invariant-loop-url : goal.invariant-loop-url
invariant-loop-url l =
    record {
      count : length l.templates.items ≡ l.url-index;
      are : AreTemplates (take l.url-index l.urls) l.templates.items;
    }
