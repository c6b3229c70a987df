-- Where a message leads under the paths of jobs and of their board.
use Rattle.std.specs.Prelude.{ℕ, ◌&&◌, nat_le, nat_eq, if◌then◌else◌, List, drop, length, Option, Some, None, Result, Ok, Err, codes, ⊤}
use Rattle.std.specs.List.{starts_with}
use Rattle.std.specs.Option.{option_map_or}
use Rattle.std.specs.Str.{bytes_eq}
use Rattle.std.specs.Str.Parse.{digits_value}
use Rattle.catalog.specs.declared.catalogue.Catalogue.{Catalogue}
use Rattle.http_wire.specs.declared.message.Message.{Message}
use Rattle.http_wire.specs.declared.message.Method.{Method}
use Rattle.http_wire.specs.declared.message.Method.TheVariants.{Get, Post, Delete, Other}
use Rattle.job_forms.specs.declared.fault.JobFault.{JobFault}
use Rattle.job_forms.specs.declared.job.Job.{Job}
use Rattle.job_forms.specs.Job.{Fits}
use Rattle.job_forms.specs.Reading.{job_of}
use Rattle.tile_requests.specs.Routes.{path_of}
use Rattle.wmts_kvp.specs.Rows.{is_number}
use Rattle.job_requests.specs.declared.request.JobRequest.{JobRequest}
use Rattle.job_requests.specs.declared.request.JobRequest.TheVariants as request

-- the number that a text of 1 to 18 digits spells
abbrev pub number_in : List ℕ → Option ℕ
number_in text = if nat_le (length text) 18 && is_number text then Some (digits_value 10 text) else None

-- what is asked of the job of a number: GET looks, DELETE ends it early
abbrev pub asked_of : Method → ℕ → JobRequest
asked_of Get n = request.Look n
asked_of Delete n = request.Stop n
asked_of Post n = request.WrongMethod
asked_of Other n = request.WrongMethod

-- by what stands behind /jobs/
abbrev pub job_at : Method → List ℕ → JobRequest
job_at method behind = option_map_or (asked_of method) (number_in behind) request.NotFound

-- what is asked of the board: GET tells of all jobs
abbrev pub listed : Method → JobRequest
listed Get = request.Statuses
listed Post = request.WrongMethod
listed Delete = request.WrongMethod
listed Other = request.WrongMethod

-- what is asked of the job of a number at the board: GET tells of it
abbrev pub status_of : Method → ℕ → JobRequest
status_of Get n = request.Status n
status_of Post n = request.WrongMethod
status_of Delete n = request.WrongMethod
status_of Other n = request.WrongMethod

-- by what stands behind /board/
abbrev pub status_at : Method → List ℕ → JobRequest
status_at method behind = option_map_or (status_of method) (number_in behind) request.NotFound

-- what a body asks for, by its reading
abbrev pub submission_of : Result Job JobFault → JobRequest
submission_of (Ok job) = request.Submission job
submission_of (Err fault) = request.Unformed fault

-- a job is submitted by POST
abbrev pub posted : Method → Result Job JobFault → JobRequest
posted Get reading = request.WrongMethod
posted Post reading = submission_of reading
posted Delete reading = request.WrongMethod
posted Other reading = request.WrongMethod

-- what is asked for below /board or /jobs
unfoldable pub below : Method → List ℕ → Option JobRequest
below method path =
    if starts_with nat_eq path (codes "/board/") then Some (status_at method (drop 7 path)) else
    (if starts_with nat_eq path (codes "/jobs/") then Some (job_at method (drop 6 path)) else
    None)

-- what a message asks for at /jobs, at /board and below these; all other paths are another table's
unfoldable pub request_for : Catalogue → Message → Option JobRequest
request_for c m =
    if bytes_eq (path_of m.target) (codes "/jobs") then Some (posted m.method (job_of c m.body)) else
    (if bytes_eq (path_of m.target) (codes "/board") then Some (listed m.method) else
    below m.method (path_of m.target))

-- a job that is asked for fits the catalogue
abbrev pub IsOf : Catalogue → JobRequest → Type 0
IsOf c (request.Submission job) = Fits c job
IsOf c (request.Unformed fault) = ⊤
IsOf c (request.Look n) = ⊤
IsOf c (request.Stop n) = ⊤
IsOf c (request.Status n) = ⊤
IsOf c request.Statuses = ⊤
IsOf c request.NotFound = ⊤
IsOf c request.WrongMethod = ⊤
