-- Two ends and what lies between them: an octet queue each way on the control connection and on the data connection, and how the
-- two connections stand (RFC 959, section 2.3). `near` is the client, `far` the server. Here is all that a world keeps; the map
-- that it began with and the operations that were begun are kept nowhere.
use Rattle.std.specs.Prelude.{ℕ, ◌+◌, ◌%◌, min, List, [], ◌∷◌, ◌++◌, Option, None}
use Rattle.ftp_operation.specs.Answer.{Said}
use Rattle.ftp_client_model.specs.View.{View as Near}
use Rattle.ftp_server_model.specs.View.{View as Far}

-- the control connection stands, was left by one end, or by both
pub data Control : Type 0 where
  Stands : Control
  LeftByNear LeftByFar : Control
  Parted : Control

-- the data link: none, open, or ended, as one end closed it. That it is wanted is seen from what the ends want
pub data Link : Type 0 where
  Gone : Link
  Opened : Link
  ClosedByNear ClosedByFar : Link

-- a link that an operation asked for was refused, or broke when its receiving end had taken so many octets
pub data Mark : Type 0 where
  Refused : Mark
  Broken : (came : ℕ) → Mark

-- the four queues hold what is on its way over the control connection and over the data link, to the server and to the client;
-- `came` counts the octets that were taken from the present link (`counted`), `listens` the ports that were listened at (`next_listen`);
-- `marks` are those of each operation begun; `cutoff` is how many were begun when the control connection ended; `taken` are the octets
-- that the last event took, where it was a delivery
pub record World : Type 0 where
  pub near : Near
  pub far : Far
  pub control_to_server : List ℕ
  pub control_to_client : List ℕ
  pub data_to_server : List ℕ
  pub data_to_client : List ℕ
  pub control : Control
  pub link : Link
  pub came : ℕ
  pub listens : ℕ
  pub marks : List (List Mark)
  pub reports : List Said
  pub cutoff : Option ℕ
  pub taken : List ℕ

-- two ends as they begin
abbrev pub world : Near → Far → World
world near far = record {
  near = near;
  far = far;
  control_to_server = [];
  control_to_client = [];
  data_to_server = [];
  data_to_client = [];
  control = Stands;
  link = Gone;
  came = 0;
  listens = 0;
  marks = [];
  reports = [];
  cutoff = None;
  taken = [];
}

-- a mark of the operation that was begun last
abbrev pub marked_last : Mark → List (List Mark) → List (List Mark)
marked_last mark [] = []
marked_last mark (marks ∷ []) = (marks ++ mark ∷ []) ∷ []
marked_last mark (marks ∷ next ∷ more) = marks ∷ marked_last mark (next ∷ more)

-- the operation that was begun last has one mark more
abbrev pub with_mark : Mark → World → World
with_mark mark w = record w { marks = marked_last mark w.marks }

-- the link is gone, and with it what is on its way
abbrev pub gone : World → World
gone w = record w { link = Gone; data_to_server = []; data_to_client = [] }

-- both ends have left the control connection
abbrev pub parted : World → World
parted w = record w { control = Parted; control_to_server = []; control_to_client = [] }

-- own choice: the k-th listen, from 0, over both ends together, gets this port; after the last port the first comes again
abbrev pub port_at : ℕ → ℕ
port_at k = 49152 + k % 16384

-- the number of the listen after one, as far as ports go
abbrev pub next_listen : ℕ → ℕ
next_listen k = (k + 1) % 16384

-- own choice: octets of a link are counted up to 2^64 - 1
abbrev pub counted : ℕ → ℕ
counted n = min n 18446744073709551615
