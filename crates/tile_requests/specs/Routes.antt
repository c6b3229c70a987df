-- The table of paths: what a message asks for, by its method, its target and its body, and how a tile is spelt in its response.
use Rattle.std.specs.Prelude.{ℕ, ◌+◌, ◌==◌, not, nat_eq, if◌then◌else◌, List, take, drop, Option, Some, None, Result, Ok, Err, codes}
use Rattle.std.specs.List.{prefix_len, starts_with}
use Rattle.std.specs.Str.{bytes_eq}
use Rattle.catalog.specs.declared.catalogue.Catalogue.{Catalogue}
use Rattle.http_wire.specs.declared.message.Message.{Message}
use Rattle.http_wire.specs.declared.message.Method.{Method}
use Rattle.http_wire.specs.declared.message.Method.TheVariants.{Get, Post}
use Rattle.job_forms.specs.declared.fault.JobFault.{JobFault}
use Rattle.job_forms.specs.Cover.{cover_of}
use Rattle.tile_requests.specs.declared.request.Request.{Request}
use Rattle.tile_requests.specs.declared.request.Request.TheVariants as request
use Rattle.tile_requests.specs.declared.spelling.Spelling.{Spelling}
use Rattle.tile_requests.specs.declared.spelling.Spelling.TheVariants.{Ppm, Png}
use Rattle.truncation_list.specs.declared.cover.Cover.{Cover}
use Rattle.wmts_kvp.specs.declared.query.Query.{Query}
use Rattle.wmts_kvp.specs.declared.query.Query.TheVariants as query
use Rattle.wmts_kvp.specs.Reading.{query_reading}
use Rattle.wmts_rest.specs.Paths.{before, path_reading, picture_reading}

-- the path of a target is what stands before its first ? (63 in ASCII), and the query what stands after it
abbrev pub path_of : List ℕ → List ℕ
path_of target = take (prefix_len (λ b. not (b == 63)) target) target

abbrev pub query_of : List ℕ → List ℕ
query_of target = drop (prefix_len (λ b. not (b == 63)) target + 1) target

-- THE READINGS

-- what the reading of a query asks for
abbrev pub request_of : Query → Request
request_of (query.Tile a) = request.Tile a
request_of query.Capabilities = request.Capabilities
request_of (query.Refused code locator) = request.Refused code locator

-- a path that has no reading isn't found
abbrev pub request_or_none : Option Query → Request
request_or_none None = request.NotFound
request_or_none (Some q) = request_of q

-- what the reading of a cover asks for
abbrev pub truncation_of : Result Cover JobFault → Request
truncation_of (Ok cover) = request.Truncation cover
truncation_of (Err fault) = request.Unformed fault

-- THE TABLE

-- a path of the table takes one method
abbrev pub by_get : Method → Request → Request
by_get Get r = r
by_get method r = request.WrongMethod

abbrev pub by_post : Method → Request → Request
by_post Post r = r
by_post method r = request.WrongMethod

-- the path, the method that it takes, and what is asked for there by the target and the body
unfoldable pub request_at : Catalogue → Method → List ℕ → List ℕ → Request
request_at c method target body =
    if bytes_eq (path_of target) (codes "/wmts") then by_get method (request_of (query_reading c (query_of target))) else
    (if starts_with nat_eq (path_of target) (codes "/rest/wmts/") then by_get method (request_or_none (path_reading c (path_of target))) else
    (if starts_with nat_eq (path_of target) (codes "/png/") then by_get method (request_or_none (picture_reading c (path_of target))) else
    (if bytes_eq (path_of target) (codes "/usage") then by_get method request.Usage else
    (if bytes_eq (path_of target) (codes "/truncate") then by_post method (truncation_of (cover_of c body)) else
    (if bytes_eq (path_of target) (codes "/expire") then by_post method request.Expiry else
    request.NotFound)))))

-- what a message asks for, whether it is the last of its connection or not
abbrev pub request_for : Catalogue → Message → Request
request_for c m = request_at c m.method m.target m.body

-- THE SPELLING

-- as PNG where something stands before `.png`
abbrev pub png_or_ppm : Option (List ℕ) → Spelling
png_or_ppm None = Ppm
png_or_ppm (Some rest) = Png

-- by how a path ends
abbrev pub by_ending : List ℕ → Spelling
by_ending path = png_or_ppm (before (codes ".png") path)

-- a tile is answered as PNG where the path begins with `/png/`, a composite where its path ends with `.png`, and both as the pixmap that they
-- are elsewhere
unfoldable pub spelling_at : List ℕ → Spelling
spelling_at target =
    if starts_with nat_eq (path_of target) (codes "/png/") then Png else
    (if starts_with nat_eq (path_of target) (codes "/composites/") then by_ending (path_of target) else
    Ppm)

-- how a tile is spelt in the response to a message
abbrev pub spelling_of : Message → Spelling
spelling_of m = spelling_at m.target
