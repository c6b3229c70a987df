-- The paths of a catalogue's text that a fault can mean, a line a path.
use Rattle.std.specs.Prelude.{ℕ, suc, List, [], ◌∷◌, ◌++◌, codes, decimal, if◌then◌else◌, Option, Some, None, option_and_then}
use Rattle.std.specs.Option.{option_map_or}
use Rattle.catalog.specs.declared.fault.CatalogueFault.{CatalogueFault}
use Rattle.catalog.specs.declared.fault.CatalogueFault.TheVariants as fault
use Rattle.json_forms.specs.Forms.{object_of, values_of}
use Rattle.serde_json.specs.Data.{Data}
use Rattle.serde_json.specs.Find.{at, get}
use Rattle.fault_paths.specs.Fields.{name_of, owner_of}
use Rattle.fault_paths.specs.Fitting.{can_be}
use Rattle.fault_paths.specs.declared.fields.Owner.{Owner}
use Rattle.fault_paths.specs.declared.fields.Owner.TheVariants as owner
use Rattle.fault_paths.specs.declared.fitting.Mistake.TheVariants as mistake
use Rattle.fault_paths.specs.declared.sought.Sought.{Sought}

-- PATHS

-- a place of a list
abbrev pub entry_path : List ℕ → ℕ → List ℕ
entry_path list i = list ++ decimal i ++ codes "]"

-- an object at this place of its list, which the object at the outer place has
abbrev pub path_of : Owner → ℕ → ℕ → List ℕ
path_of owner.Outermost outer i = codes "$"
path_of owner.Grid outer i = entry_path (codes "$.grids[") i
path_of owner.Matrix outer i = entry_path (codes "$.grids[") outer ++ entry_path (codes ".matrices[") i
path_of owner.Layer outer i = entry_path (codes "$.layers[") i
path_of owner.Style outer i = entry_path (codes "$.layers[") outer ++ entry_path (codes ".styles[") i
path_of owner.Dimension outer i = entry_path (codes "$.layers[") outer ++ entry_path (codes ".dimensions[") i

-- LINES

-- the line of the member of an object, where the mistake can be there
unfoldable pub member_line : Sought → ℕ → Data → List ℕ
member_line s outer holder =
    if can_be s.mistake s.field holder then path_of (owner_of s.field) outer s.at ++ codes "." ++ name_of s.field ++ codes "\n" else []

abbrev pub found_line : Sought → ℕ → Option Data → List ℕ
found_line s outer None = []
found_line s outer (Some holder) = member_line s outer holder

-- what stands at a place of a list, which is a member of an object
abbrev pub entry_of : List ℕ → ℕ → Data → Option Data
entry_of list i holder = option_and_then (at i) (get list holder)

-- those of objects that follow each other from a place on, each of which has a list of this name
abbrev pub each_line : Sought → List ℕ → ℕ → List Data → List ℕ
each_line s name outer [] = []
each_line s name outer (holder ∷ holders) = found_line s outer (entry_of name s.at holder) ++ each_line s name (suc outer) holders

-- those of the objects of a list
abbrev pub nested_lines : Sought → List ℕ → List ℕ → Data → List ℕ
nested_lines s list name whole = option_map_or (λ holders. each_line s name 0 holders) (option_and_then values_of (get list whole)) []

-- those of the objects that have the member
abbrev pub lines_of : Owner → Sought → Data → List ℕ
lines_of owner.Outermost s whole = member_line s 0 whole
lines_of owner.Grid s whole = found_line s 0 (entry_of (codes "grids") s.at whole)
lines_of owner.Layer s whole = found_line s 0 (entry_of (codes "layers") s.at whole)
lines_of owner.Matrix s whole = nested_lines s (codes "grids") (codes "matrices") whole
lines_of owner.Style s whole = nested_lines s (codes "layers") (codes "styles") whole
lines_of owner.Dimension s whole = nested_lines s (codes "layers") (codes "dimensions") whole

-- THE FAULT

-- what it says is sought; a text that is no object and want of memory name no member
abbrev pub sought_of : CatalogueFault → Option Sought
sought_of fault.NotJson = None
sought_of (fault.Missing f i) = Some (record { mistake = mistake.Absence; field = f; at = i })
sought_of (fault.Bad f i) = Some (record { mistake = mistake.Other; field = f; at = i })
sought_of (fault.Duplicate f i) = Some (record { mistake = mistake.Other; field = f; at = i })
sought_of (fault.Limit f i) = Some (record { mistake = mistake.Excess; field = f; at = i })
sought_of fault.OutOfMemory = None

-- each path of the text that it can mean
abbrev pub paths_of : CatalogueFault → Data → List ℕ
paths_of fault whole = option_map_or (λ s. lines_of (owner_of s.field) s whole) (sought_of fault) []

-- so it is of the catalogue's text; one that is no object has none
abbrev pub paths_in : CatalogueFault → List ℕ → List ℕ
paths_in fault text = option_map_or (λ whole. paths_of fault whole) (object_of text) []
