-- The first two sections of the input.
use Rattle.std.specs.Prelude.{◌≡◌, ◌⊎◌, ◌<◌, ◌≤◌, ℕ, Bool, List, [], ◌∷◌, ◌++◌, true, false, Ok, Err, length, slice_index, codes, decimal}
use Rattle.wh_lines.specs.Input.{Input}
use Rattle.wh_lines.specs.Section.{Overflows, Sectioned}
use Rattle.wh_lines.specs.declared.sections.SectionFault.{SectionFault}
use Rattle.wh_lines.specs.declared.sections.SectionFault.TheVariants as fault
use Rattle.wh_grid.specs.Maps.{map_at}
use Rattle.wh_grid.specs.Grids.{Floor}
use Rattle.wh_grid.specs.declared.fault.Fault.{Fault as MapPlace}
use Rattle.wh_points.specs.Points.{Layout, Site, point_at}
use Rattle.wh_points.specs.declared.points.Kind.{Kind}
use Rattle.wh_points.specs.PointFiles.{layout_at}
use Rattle.wh_points.specs.declared.fault.Fault.{Fault as PointPlace}
use Rattle.wh_edge.specs.declared.trouble.Trouble.{Trouble}
use Rattle.wh_edge.specs.declared.trouble.Trouble.TheVariants as trouble

abbrev pub section_trouble : SectionFault → Trouble
section_trouble fault.Broken = trouble.Broken
section_trouble fault.Endless = trouble.Endless
section_trouble fault.TooLong = trouble.SectionTooLong
section_trouble fault.NoMemory = trouble.NoMemory

-- the map section was read, and is this floor
pub record MapRead (old new : Input) (floor : Floor) : Type 0 where
  pub text : List ℕ
  pub section : Sectioned old new text
  pub within : length text ≤ 33554432
  pub says : map_at text ≡ Ok floor

-- both sections were read, and are this floor and these points
pub record SiteRead (old new : Input) (floor : Floor) (layout : Layout) : Type 0 where
  pub between : Input
  pub map : MapRead old between floor
  pub text : List ℕ
  pub section : Sectioned between new text
  pub within : length text ≤ 1048576
  pub says : layout_at floor text ≡ Ok layout

-- what the point is for where the agent of this number starts
abbrev pub start_of : Layout → ℕ → Kind
start_of layout agent = (point_at layout.points (slice_index layout.agents agent)).kind

-- each agent starts at a parking
abbrev pub AllParked : Layout → Type 0
AllParked layout = (agent : ℕ) → agent < length layout.agents → start_of layout agent ≡ Kind.Parking

-- this is the lowest agent that starts at a station
pub record IsFirstNotParked (layout : Layout) (agent : ℕ) : Type 0 where
  pub known : agent < length layout.agents
  pub station : start_of layout agent ≡ Kind.Station
  pub before : (earlier : ℕ) → earlier < agent → start_of layout earlier ≡ Kind.Parking

-- both sections were read, and are this site by the rule that was asked for: where paths end at homes, each agent starts at a parking
pub record SiteRuled (homes : Bool) (old new : Input) (site : Site) : Type 0 where
  pub read : SiteRead old new site.grid site.layout
  pub rule : site.homes ≡ homes
  pub parked : homes ≡ true → AllParked site.layout

-- paths are to end at homes, and the trouble tells the lowest agent that starts at a station
pub record IsToldUnparked (homes : Bool) (layout : Layout) (told : Trouble) : Type 0 where
  pub agent : ℕ
  pub is : told ≡ trouble.NotParked agent
  pub rule : homes ≡ true
  pub first : IsFirstNotParked layout agent

-- how the rule is told that paths end at homes; the other is not told
abbrev pub rule_words : Bool → List ℕ
rule_words true = codes " ends homes"
rule_words false = []

-- the line that tells how long both sections of a site are, and the rule
abbrev pub site_head : Bool → (map points : ℕ) → List ℕ
site_head homes map points = codes "wsite " ++ decimal map ++ 32 ∷ decimal points ++ rule_words homes ++ 10 ∷ []

-- the text that keeps a site: that line, and both sections as they came
abbrev pub site_text : Bool → (map points : List ℕ) → List ℕ
site_text homes map points = site_head homes (length map) (length points) ++ map ++ points

-- two sections of a site that is read are no longer than that
abbrev pub AreSections : (map points : List ℕ) → Type 0
AreSections map points = (length map ≤ 33554432) × (length points ≤ 1048576)

-- a text that keeps a site is no beginning of a text that keeps another
abbrev pub OneSite : Type 0
OneSite =
    (homes other_homes : Bool) (map points other_map other_points rest : List ℕ) → AreSections map points → AreSections other_map other_points →
    site_text homes map points ≡ site_text other_homes other_map other_points ++ rest → (other_homes ≡ homes) × (other_map ≡ map) × (other_points ≡ points)

-- both sections were read, as they came
pub record SectionsRead (homes : Bool) (old new : Input) (site : Site) (map points : List ℕ) : Type 0 where
  pub ruled : SiteRuled homes old new site
  pub map_is : map ≡ ruled.read.map.text
  pub points_is : points ≡ ruled.read.text

-- both sections were read, and the text keeps them with the rule
pub record SiteKept (homes : Bool) (old new : Input) (site : Site) (text : List ℕ) : Type 0 where
  pub ruled : SiteRuled homes old new site
  pub text_is : text ≡ site_text homes ruled.read.map.text ruled.read.text

-- the map section was read, and has this fault first
pub record MapRefused (old new : Input) (place : MapPlace) : Type 0 where
  pub text : List ℕ
  pub section : Sectioned old new text
  pub says : map_at text ≡ Err place

-- the map is well, the points section was read, and has this fault first
pub record PointsRefused (old new : Input) (place : PointPlace) : Type 0 where
  pub between : Input
  pub floor : Floor
  pub map : MapRead old between floor
  pub text : List ℕ
  pub section : Sectioned between new text
  pub says : layout_at floor text ≡ Err place

-- both sections were read, paths are to end at homes, and this is the lowest agent that starts at a station
pub record IsUnparked (homes : Bool) (old new : Input) (agent : ℕ) : Type 0 where
  pub site : Site
  pub read : SiteRead old new site.grid site.layout
  pub rule : homes ≡ true
  pub first : IsFirstNotParked site.layout agent

-- the map is well, and the points section has more bytes than it may have
pub record PointsOverflow (old new : Input) : Type 0 where
  pub between : Input
  pub floor : Floor
  pub map : MapRead old between floor
  pub over : Overflows between new 1048576

-- the reader was asked and failed, or a fault came before
abbrev pub Breaks : Input → Input → Type 0
Breaks old new = (old.failed ≡ true) ⊎ (old.reads < new.reads)

-- the map is well, and the points section was not read to its end
pub record PointsBreak (old new : Input) : Type 0 where
  pub between : Input
  pub floor : Floor
  pub map : MapRead old between floor
  pub breaks : Breaks between new

-- why there is no site; when out of memory, nothing more is said
abbrev pub SiteFault : Bool → Trouble → Input → Input → Type 0
SiteFault homes (trouble.Map place) old new = MapRefused old new place
SiteFault homes (trouble.Points place) old new = PointsRefused old new place
SiteFault homes (trouble.NotParked agent) old new = IsUnparked homes old new agent
SiteFault homes trouble.SectionTooLong old new = Overflows old new 33554432 ⊎ PointsOverflow old new
SiteFault homes trouble.Broken old new = Breaks old new ⊎ PointsBreak old new
SiteFault homes trouble.Endless old new = new.reads ≡ 100000000
SiteFault homes trouble.NoMemory old new = Unit {0}
SiteFault homes _ old new = ⊥
